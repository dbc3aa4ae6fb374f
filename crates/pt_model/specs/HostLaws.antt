-- The host as a value runs as the ptrace machine does.
use Rattle.std.specs.Prelude.{◌≡◌, ℕ, Bool, true, cond, [], ◌++◌}
use Rattle.lx_abi.specs.declared.outcome.Outcome.{Outcome}
use Rattle.lx_abi.specs.declared.ptrace.Request.{Request}
use Rattle.lx_abi.specs.declared.schedule.Event.{Event}
use Rattle.lx_abi.specs.declared.script.Choice.{Choice}
use Rattle.lx_abi.specs.Scripts.{choice_of}
use Rattle.lx_model.specs.Events.{by_pid}
use Rattle.lx_model.specs.Machine.{Machine}
use Rattle.lx_model.specs.Turn.{Out, turn}
use Rattle.lx_model.specs.declared.stage.Task.{Task}
use Rattle.lx_model.specs.Finite.{item_of, running_turn, task_mode, IsAble}
use Rattle.lx_abi.specs.declared.ptrace.TraceOptions.{TraceOptions}
use Rattle.pt_model.specs.Ptrace.{tracee_stop, is_dying, is_effective, host_turn}
use Rattle.pt_model.specs.Requests.{serve}
use Rattle.pt_model.specs.World.{first_world}
use Rattle.pt_model.specs.Attending.{is_ready, IsHostAble, event, turned}
use Rattle.pt_model.specs.Hosting.{Hosting, proc_in, host_in, attending_in, IsFresh, no_script, told_stop, ends_dying, ready_in, hosting_turn, hosting_serve, hosting_event, first_hosting}

abbrev pub HostsTurnAlike : Type 0 → Type 0 → Type 0
HostsTurnAlike S B = (m : Machine S B) (follow : Bool) (v : Hosting S B) (p : ℕ) → IsFresh v →
    (host_in (hosting_turn m follow v p) ≡ host_turn m (host_in v) p) × IsFresh (hosting_turn m follow v p)

abbrev pub HostsServeAlike : Type 0 → Type 0 → Type 0
HostsServeAlike S B = (m : Machine S B) (outcome : S → Outcome) (v : Hosting S B) (q : Request) → IsFresh v →
    (host_in (hosting_serve m outcome v q).hosting ≡ (serve m outcome (host_in v) q).host)
    × ((hosting_serve m outcome v q).reply ≡ (serve m outcome (host_in v) q).reply)
    × IsFresh (hosting_serve m outcome v q).hosting

-- with the request that is pending, and the count of effective turns
abbrev pub HostsAttendAlike : Type 0 → Type 0 → Type 0
HostsAttendAlike S B =
    (m : Machine S B) (outcome : S → Outcome) (follow : Bool) (v : Hosting S B) (e : Event) → IsFresh v →
    (attending_in (hosting_event m outcome follow v e).hosting ≡ (event m outcome (attending_in v) e).attending)
    × ((hosting_event m outcome follow v e).reply ≡ (event m outcome (attending_in v) e).reply)
    × ((hosting_event m outcome follow v e).hosting.turns ≡ v.turns ++ turned m (host_in v) e)
    × IsFresh (hosting_event m outcome follow v e).hosting

abbrev pub HostsBeginAlike : Type 0 → Type 0 → Type 0
HostsBeginAlike S B = (s : S) (b : B) →
    (host_in (first_hosting s b) ≡ (first_world s b).host) × IsFresh (first_hosting s b)

-- a turn is the kernel's own, under the empty script, or none
abbrev pub HostsRunTheKernel : Type 0 → Type 0 → Type 0
HostsRunTheKernel S B = (m : Machine S B) (follow : Bool) (v : Hosting S B) (p : ℕ) →
    (hosting_turn m follow v p).running
    ≡ cond (is_effective m v.running.shared p (proc_in v p)) (running_turn m no_script follow v.running p) v.running

-- a script without rules
abbrev pub EmptyScriptIsNone : Type 0
EmptyScriptIsNone = choice_of [] ≡ no_script

-- a turn's mode, item and event tell its process's stop
abbrev pub TurnsTell : Type 0 → Type 0 → Type 0
TurnsTell S B = (m : Machine S B) (c : Choice) (s : S) (child p : ℕ) (task : Task B) (w : TraceOptions) →
    let o : Out S B = turn m c s child p task in
    (told_stop w (task_mode o.task) (item_of o) (by_pid child o.event) ≡ tracee_stop w o.task o.item o.event)
    × (ends_dying (task_mode o.task) ≡ is_dying o.task)

-- whether a host is ready, its queue and its tracees tell
abbrev pub HostsAreReady : Type 0 → Type 0 → Type 0
HostsAreReady S B = (m : Machine S B) (outcome : S → Outcome) (v : Hosting S B) →
    ready_in v.pending v.queue v.tracees ≡ is_ready m outcome (attending_in v)

-- whether it is able, the kernel tells of an effective turn
abbrev pub IsTurnAble : {S B : Type 0} → Machine S B → Bool → Hosting S B → ℕ → Type 0
IsTurnAble m follow v p =
    (is_effective m v.running.shared p (proc_in v p) ≡ true) × IsAble m no_script follow v.running p

abbrev pub HostsAreAble : Type 0 → Type 0 → Type 0
HostsAreAble S B = (m : Machine S B) (follow : Bool) (v : Hosting S B) (p : ℕ) →
    (IsTurnAble m follow v p → IsHostAble m (host_in v) p) × (IsHostAble m (host_in v) p → IsTurnAble m follow v p)
