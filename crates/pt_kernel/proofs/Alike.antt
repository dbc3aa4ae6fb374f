-- A turn that runs an instruction leaves able who was able.
use Rattle.std.proofs.Common.{◌≡◌, ℕ, Bool, true, false, not, cond, List, [], ◌∷◌, ◌++◌, Option, Some, None, unwrap_or, refl, sym, ap, ap₂, subst, ◌∙◌, append-nil}
use Rattle.std.specs.Prelude.{◌&&◌}
use Rattle.std.specs.Ordering.{nat_cmp, eq_by_cmp}
use Rattle.std.specs.Cmp.{nat_cmp_total}
use Rattle.std.specs.FinMap as maps
use Rattle.lx_abi.specs.declared.log.Item.{Item}
use Rattle.lx_abi.specs.declared.log.Mode.TheVariants as mode
use Rattle.lx_abi.specs.declared.ptrace.TraceOptions.{TraceOptions}
use Rattle.lx_abi.specs.declared.schedule.Event.TheVariants.{Turn}
use Rattle.lx_abi.specs.declared.script.Choice.{Choice}
use Rattle.lx_abi.specs.Log.{entries}
use Rattle.lx_abi.specs.Scripts.{choice_of}
use Rattle.lx_model.specs.declared.event.PtraceEvent.TheVariants.{Plain, Execed, Forked}
use Rattle.lx_model.specs.declared.event.PtraceEvent.{PtraceEvent}
use Rattle.lx_model.specs.declared.stage.Stage.{Stage}
use Rattle.lx_model.specs.declared.stage.Stage.TheVariants.{Born, Run, Faulting, Entered, Doing, Replaced, Acted, Finished, Taken, Dropped, Stopped, Released, Woken}
use Rattle.lx_model.specs.declared.stage.Task.{Task}
use Rattle.lx_model.specs.declared.stage.Task.TheVariants.{Alive, Dying, Gone}
use Rattle.lx_model.specs.Machine.{Ran, Goes, Calls, Faults, Takes}
use Rattle.lx_model.specs.Turn.{Out, gives, stepped, killed_or, turn, stage_mode}
use Rattle.lx_model.specs.Kernel.{choice_at, traces}
use Rattle.lx_model.specs.Finite.{at, task_mode, Running, ran, bore, turn_out}
use Rattle.lx_proc.specs.declared.state.Entry.{Entry}
use Rattle.lx_proc.specs.declared.state.Life.{Life}
use Rattle.lx_proc.specs.declared.state.Life.TheVariants as life
use Rattle.lx_proc.specs.declared.state.Shared.{Shared}
use Rattle.lx_proc.specs.declared.state.UserState.{UserState}
use Rattle.lx_turn.specs.Linux.{linux}
use Rattle.lx_turn.specs.Modes.{life_mode, task_mode as kernel_mode}
use Rattle.lx_kernel.specs.Runs.{Run as KernelRun, turn_in, after_turn, mode_in}
use Rattle.lx_kernel.specs.Tracing.{task_in}
use Rattle.lx_kernel.proofs.Placed.{equal_is, put_same}
use Rattle.pt_model.specs.declared.ptrace.Traced.{Traced}
use Rattle.pt_model.specs.Ptrace.{is_dying, is_effective, may_die, inherits, reports_of, stop_at, without}
use Rattle.pt_model.specs.Hosting.{as_proc, no_script, untraced, traced_at, traced_after, with_newborn, with_birth, hosted, hosting_turn}
use Rattle.pt_model.proofs.Hosts.{empty_script_is_none}
use Rattle.pt_schedule.specs.Modes.{moves}
use Rattle.pt_kernel.specs.Hosts.{Linux_host, HostState, able_in}
use Rattle.pt_kernel.specs.AfterEvents.{after, mode_at, IsRunning, RunsOn, AreAlike, RunsLeaveAlike}
use Rattle.pt_kernel.proofs.Telling.{left_at}

-- Where a process stands that runs

buried_not_run : (e : Entry) (l : Life) → life_mode (Some (record e { life = l })) ≡ Some mode.Run → ⊥
buried_not_run e life.Alive h = cc h
buried_not_run e (life.Dying w) h = cc h
buried_not_run e (life.Zombie w) h = cc h

stage_in_run : (b : UserState) (stage : Stage) → Some (stage_mode stage) ≡ Some mode.Run → (c : UserState) × (Alive b stage ≡ Alive c Run)
stage_in_run b Born h = absurd (cc h)
stage_in_run b Run h = (b, refl)
stage_in_run b (Faulting signal cause) h = absurd (cc h)
stage_in_run b (Entered joined) h = absurd (cc h)
stage_in_run b (Doing call) h = absurd (cc h)
stage_in_run b (Replaced call x) h = absurd (cc h)
stage_in_run b (Acted call x replaced) h = absurd (cc h)
stage_in_run b Finished h = absurd (cc h)
stage_in_run b (Taken signal cause) h = absurd (cc h)
stage_in_run b Dropped h = absurd (cc h)
stage_in_run b (Stopped signal) h = absurd (cc h)
stage_in_run b Released h = absurd (cc h)
stage_in_run b Woken h = absurd (cc h)

task_in_run : (e : Option Entry) (task : Task UserState) → kernel_mode e task ≡ Some mode.Run → (c : UserState) × (task ≡ Alive c Run)
task_in_run e (Alive b stage) h = stage_in_run b stage h
task_in_run e (Dying w) h = absurd (cc h)
task_in_run None Gone h = absurd (cc h)
task_in_run (Some e) Gone h = absurd (buried_not_run e e.life h)

-- A turn that stays there

module _ (v : Running Shared UserState) (p : ℕ) where
  abbrev Stays : Out Shared UserState → Type 0
  Stays o = (c : UserState) × (o ≡ gives v.shared (Alive c Run))

  -- where the process stands after a turn that bears no child
  abbrev mode_by : Out Shared UserState → Type 0
  mode_by o = kernel_mode (maps.get o.shared.entries p) (at Gone (ran v p o).tasks p) ≡ Some mode.Run

  mode_left : (o : Out Shared UserState) → mode_by o → kernel_mode (maps.get o.shared.entries p) o.task ≡ Some mode.Run
  mode_left o h = ap (kernel_mode (maps.get o.shared.entries p)) (sym (left_at v p o)) ∙ h

  abbrev After : Out Shared UserState → Type 0
  After o = kernel_mode (maps.get (bore (ran v p o) o.event).shared.entries p) (at Gone (bore (ran v p o) o.event).tasks p) ≡ Some mode.Run

  stays_by : (b : UserState) (killed : Bool) (r : Ran Shared UserState) (c : Choice) (child : ℕ) → linux.step v.shared p b ≡ r → After (killed_or killed linux c v.shared child p b Run) → Stays (killed_or killed linux c v.shared child p b Run)
  stays_by b true r c child e h = absurd (cc (mode_left (killed_or true linux c v.shared child p b Run) h))
  stays_by b false (Goes d) c child e h = (d, ap (stepped linux v.shared p b) e)
  stays_by b false Calls c child e h = absurd (cc (mode_left (stepped linux v.shared p b Calls) (subst (λ r. After (stepped linux v.shared p b r)) e h)))
  stays_by b false (Faults signal cause) c child e h = absurd (cc (mode_left (stepped linux v.shared p b (Faults signal cause)) (subst (λ r. After (stepped linux v.shared p b r)) e h)))
  stays_by b false (Takes t signal cause) c child e h = absurd (cc (mode_left (stepped linux v.shared p b (Takes t signal cause)) (subst (λ r. After (stepped linux v.shared p b r)) e h)))

abbrev turn_by : KernelRun → ℕ → Task UserState → Out Shared UserState
turn_by k p task = turn linux (choice_at linux (choice_of k.script) (traces k.follow p) (λ n. entries p n k.running.log) task) k.running.shared k.running.child p task

stays : (k : KernelRun) (p : ℕ) → (mode_in k p ≡ Some mode.Run) × (mode_in (after_turn k p) p ≡ Some mode.Run) → (c : UserState) × (turn_in k p ≡ gives k.running.shared (Alive c Run))
stays k p h =
    let here : (c : UserState) × (task_in k p ≡ Alive c Run) = task_in_run (maps.get k.running.shared.entries p) (task_in k p) h.0 in
    let turned : turn_in k p ≡ turn_by k p (Alive here.0 Run) = ap (turn_by k p) here.1 in
    let it : Stays k.running p (turn_by k p (Alive here.0 Run)) =
    stays_by k.running p here.0 (linux.killed k.running.shared p) (linux.step k.running.shared p here.0)
    (choice_at linux (choice_of k.script) (traces k.follow p) (λ n. entries p n k.running.log) (Alive here.0 Run)) k.running.child refl (subst (After k.running p) turned h.1) in
    (it.0, turned ∙ it.1)

-- What the host keeps of it

abbrev with_run : Linux_host → Running Shared UserState → List ℕ → Linux_host
with_run v r turns = record { running = r; traced = v.traced; queue = v.queue; tracees = v.tracees; turns = turns; pending = v.pending }

-- nothing changes of who isn't held
module _ (v : Linux_host) (p child : ℕ) (c : UserState) where
  kept_by : (o : Option Traced) → maps.get v.traced p ≡ o → (unwrap_or o untraced).held ≡ false → traced_after v.traced p child (unwrap_or o untraced).message (unwrap_or o untraced).options (Alive c Run) None Plain ≡ v.traced
  kept_by None e h = refl
  kept_by (Some t) e h = of_options t.options refl
    where
      of_options : (w : Option TraceOptions) → t.options ≡ w → traced_after v.traced p child t.message w (Alive c Run) None Plain ≡ v.traced
      of_options None f = refl
      of_options (Some w) f = put_same v.traced p (record { held = false; options = Some w; message = t.message })
          (e ∙ ap₂ (λ held options. Some (record { held = held; options = options; message = t.message })) h f)

  kept : (traced_at v p).held ≡ false → traced_after v.traced p child (traced_at v p).message (traced_at v p).options (Alive c Run) None Plain ≡ v.traced
  kept h = kept_by (maps.get v.traced p) refl h

no_reports : (v : Linux_host) (p : ℕ) (w : Option TraceOptions) (c : UserState) → v.queue ++ reports_of p (stop_at {B = UserState} w (Alive c Run) None Plain) ≡ v.queue
no_reports v p None c = append-nil v.queue
no_reports v p (Some w) c = append-nil v.queue

abbrev kernel_by : Linux_host → Bool → Bool → Bool → KernelRun
kernel_by v follow failed keeps = record { running = v.running; script = []; follow = follow; failed = failed; keeps_log = keeps }

abbrev hosted_by : Linux_host → ℕ → Out Shared UserState → Linux_host
hosted_by v p o = hosted v p (traced_at v p) o

hosted_stays : (v : Linux_host) (p : ℕ) (c : UserState) → (traced_at v p).held ≡ false → hosted_by v p (gives v.running.shared (Alive c Run)) ≡ with_run v (ran v.running p (gives v.running.shared (Alive c Run))) (v.turns ++ p ∷ [])
hosted_stays v p c h =
    ap₂ (λ traced queue. record { running = ran v.running p (gives v.running.shared (Alive c Run)); traced = traced; queue = queue; tracees = v.tracees; turns = v.turns ++ p ∷ []; pending = v.pending })
    (kept v p v.running.child c h) (no_reports v p (traced_at v p).options c)

-- one turn
turned_so : (v : Linux_host) (follow failed keeps : Bool) (p : ℕ) → (traced_at v p).held ≡ false → (c : UserState) → turn_in (kernel_by v follow failed keeps) p ≡ gives v.running.shared (Alive c Run) →
    hosting_turn linux follow v p ≡ with_run v (ran v.running p (gives v.running.shared (Alive c Run))) (v.turns ++ p ∷ [])
turned_so v follow failed keeps p free c it =
    let k : KernelRun = kernel_by v follow failed keeps in
    let same : turn_out linux no_script follow v.running p ≡ turn_in k p = ap (λ script. turn_out linux script follow v.running p) (sym empty_script_is_none) in
    ap (λ held. cond (cond held (may_die linux v.running.shared p (traced_at v p).options (at Gone v.running.tasks p)) true) (hosted_by v p (turn_out linux no_script follow v.running p)) v) free
    ∙ ap (hosted_by v p) (same ∙ it)
    ∙ hosted_stays v p c free

-- Who is able

module _ (v : Linux_host) (follow : Bool) (p : ℕ) (free : (traced_at v p).held ≡ false) where
  abbrev able_by : ℕ → Task UserState → List Item → Bool
  able_by q task log =
      is_effective linux v.running.shared q (as_proc task (traced_at v q))
      && moves (task_mode task) (task_mode (turn linux (choice_at linux no_script (traces follow q) (λ n. entries q n log) task) v.running.shared v.running.child q task).task)

  -- who runs is able
  running_able : (b : UserState) (log : List Item) → able_by p (Alive b Run) log ≡ true
  running_able b log = ap (λ held. cond held (may_die linux v.running.shared p (traced_at v p).options (Alive b Run)) true && true) free

  module _ (b c : UserState) (here : at Gone v.running.tasks p ≡ Alive b Run) where
    by_pid : (q : ℕ) (log : List Item) (same : Bool) → eq_by_cmp nat_cmp q p ≡ same →
        able_by q (unwrap_or (cond same (Some (Alive c Run)) (maps.get v.running.tasks q)) Gone) log ≡ able_by q (at Gone v.running.tasks q) log
    by_pid q log true e =
        subst (λ r. able_by r (Alive c Run) log ≡ able_by r (at Gone v.running.tasks r) log) (sym (maps.nat_cmp-IsAntisymmetric q p (equal_is (nat_cmp q p) e)))
        (running_able c log ∙ sym (ap (λ task. able_by p task log) here ∙ running_able b log))
    by_pid q log false e = refl

    able_still : (turns : List ℕ) (q : ℕ) → able_in (with_run v (ran v.running p (gives v.running.shared (Alive c Run))) turns) follow q ≡ able_in v follow q
    able_still turns q =
        ap₂ (λ task log. able_by q task log) (ap (λ o. unwrap_or o Gone) (maps.get-insert nat_cmp_total v.running.tasks p (Alive c Run) q)) (append-nil v.running.log)
        ∙ by_pid q v.running.log (eq_by_cmp nat_cmp q p) refl

-- what the turn of the host leaves of the kernel
newborn_running : (v : Linux_host) (child : ℕ) (w : Option TraceOptions) → (with_newborn v child w).running ≡ v.running
newborn_running v child None = refl
newborn_running v child (Some w) = refl

birth_running : (v : Linux_host) (child : ℕ) (w : Option TraceOptions) (e : PtraceEvent UserState) → (with_birth v child w e).running ≡ v.running
birth_running v child w Plain = refl
birth_running v child w Execed = refl
birth_running v child w (Forked b) = newborn_running v child (inherits w)

hosted_running : (v : Linux_host) (p : ℕ) (t : Traced) (o : Out Shared UserState) → (hosted v p t o).running ≡ bore (ran v.running p o) o.event
hosted_running v p t o = birth_running (record {
  running = bore (ran v.running p o) o.event;
  traced = traced_after v.traced p v.running.child t.message t.options o.task o.item o.event;
  queue = cond (is_dying o.task) (without p v.queue) v.queue ++ reports_of p (stop_at t.options o.task o.item o.event);
  tracees = v.tracees;
  turns = v.turns ++ p ∷ [];
  pending = v.pending;
}) v.running.child t.options o.event

turn_running : (v : Linux_host) (follow : Bool) (p : ℕ) → (traced_at v p).held ≡ false → (hosting_turn linux follow v p).running ≡ (after_turn (kernel_by v follow false false) p).running
turn_running v follow p free =
    let same : turn_out linux no_script follow v.running p ≡ turn_in (kernel_by v follow false false) p = ap (λ script. turn_out linux script follow v.running p) (sym empty_script_is_none) in
    ap (λ held. (cond (cond held (may_die linux v.running.shared p (traced_at v p).options (at Gone v.running.tasks p)) true) (hosted_by v p (turn_out linux no_script follow v.running p)) v).running) free
    ∙ hosted_running v p (traced_at v p) (turn_out linux no_script follow v.running p)
    ∙ ap (λ (o : Out Shared UserState). bore (ran v.running p o) o.event) same

pub runs_leave_alike : RunsLeaveAlike
runs_leave_alike h p on =
    let v = h.hosting in
    let free = on.running.free in
    let k : KernelRun = kernel_by v h.follow false false in
    let left : mode_in (after_turn k p) p ≡ Some mode.Run =
    ap (λ (r : Running Shared UserState). kernel_mode (maps.get r.shared.entries p) (at Gone r.tasks p)) (sym (turn_running v h.follow p free)) ∙ on.stays in
    let it : (c : UserState) × (turn_in k p ≡ gives v.running.shared (Alive c Run)) = stays k p (on.running.runs, left) in
    let here : (b : UserState) × (at Gone v.running.tasks p ≡ Alive b Run) = task_in_run (maps.get v.running.shared.entries p) (at Gone v.running.tasks p) on.running.runs in
    let turned : hosting_turn linux h.follow v p ≡ with_run v (ran v.running p (gives v.running.shared (Alive it.0 Run))) (v.turns ++ p ∷ []) = turned_so v h.follow false false p free it.0 it.1 in
    let able : (q : ℕ) → able_in (hosting_turn linux h.follow v p) h.follow q ≡ (not h.failed && able_in v h.follow q) =
    λ q. ap (λ (u : Linux_host). able_in u h.follow q) turned ∙ able_still v h.follow p free here.0 it.0 here.1 (v.turns ++ p ∷ []) q ∙ ap (λ failed. not failed && able_in v h.follow q) (sym on.running.whole) in
    (λ i. λ q. able q i, ap (λ (u : Linux_host). u.running.shared.limits.last_pid) turned)
