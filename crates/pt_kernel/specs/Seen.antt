-- A schedule over the ptrace machine at Linux: what it sees of a host, and the event that it gives next.
use Rattle.std.specs.Prelude.{◌≡◌, ℕ, Bool, true, false, ◌&&◌, List, ◌++◌, [], Option, Some, None}
use Rattle.std.specs.Option.{option_map}
use Rattle.lx_abi.specs.declared.ptrace.Request.{Request}
use Rattle.lx_abi.specs.declared.schedule.Event.{Event}
use Rattle.lx_model.specs.Finite.{task_mode}
use Rattle.lx_model.specs.Machine.{Machine}
use Rattle.lx_proc.specs.declared.state.Shared.{Shared}
use Rattle.lx_proc.specs.declared.state.UserState.{UserState}
use Rattle.lx_turn.specs.Linux.{linux}
use Rattle.lx_kernel.specs.Outcomes.{outcome_in}
use Rattle.pt_model.specs.Attending.{Attending, is_ready, called, left_pending, Schedules, Gives}
use Rattle.pt_model.specs.Hosting.{host_in, IsFresh}
use Rattle.pt_model.specs.Ptrace.{Host, is_effective, is_there, host_turn_of}
use Rattle.pt_kernel.specs.Attends.{Attended, Attends}
use Rattle.pt_kernel.specs.Hosts.{Linux_host, HostState}
use Rattle.pt_schedule.specs.Modes.{is_finished, moves}
use Rattle.pt_schedule.specs.Schedules.{Readiness, Given, next_of}
use Rattle.pt_schedule.specs.declared.schedule.Schedule.{Schedule}

-- a turn of the process is effective, and runs an instruction or changes its mode
abbrev pub is_able : {S B : Type 0} → Machine S B → Host S B → ℕ → Bool
is_able m h p =
    is_effective m h.shared p (h.procs p) && moves (task_mode (h.procs p).task) (task_mode (host_turn_of m h p).task)

abbrev pub sees : Attending Shared UserState → Readiness
sees a = record {
  ready = is_ready linux outcome_in a;
  able = is_able linux a.host;
  last_pid = a.host.shared.limits.last_pid;
  finished = λ p. is_finished (task_mode (a.host.procs p).task);
}

-- the event, and what is left of the schedule; none where it has ended
abbrev pub given : Given Schedule → Option (Event × Schedule)
given g = option_map (λ e. (e, g.schedule)) g.event

abbrev pub next_of_host : Schedules Schedule Shared UserState
next_of_host x a = given (next_of x (sees a))

-- The pending request, attended to over finite maps, is a call of the ptrace machine: the schedule gave these events
-- until it was answered, or it has ended.
pub record IsCalled (v : Linux_host) (s : Schedule) (q : Request) (z : Attended) (fed : List Event) : Type 0 where
  -- what is left of the schedule after the last event
  pub left : Schedule
  pub gives : Gives next_of_host linux outcome_in s (record { host = host_in v; pending = Some q }) fed left
  pub host : (called linux outcome_in (host_in v) q fed).host ≡ host_in z.host.hosting
  pub used : (called linux outcome_in (host_in v) q fed).left ≡ []
  pub reply : (called linux outcome_in (host_in v) q fed).reply ≡ z.reply
  pub turned : z.host.hosting.turns ≡ v.turns ++ (called linux outcome_in (host_in v) q fed).turns
  pub pending : z.host.hosting.pending ≡ left_pending q z.reply
  pub fresh : IsFresh z.host.hosting
  pub whole : z.host.failed ≡ false
  pub goes_on : is_there z.reply ≡ true → z.schedule ≡ left
  pub ended : z.reply ≡ None → next_of_host left (record { host = host_in z.host.hosting; pending = Some q }) ≡ None

-- for every host that hasn't failed
abbrev pub HostsAreCalled : Type 0
HostsAreCalled = (h : HostState) (s : Schedule) (q : Request) (z : Attended) →
    IsFresh h.hosting → h.failed ≡ false → h.hosting.pending ≡ Some q →
    (a : Attends h s z) → IsCalled h.hosting s q z a.fed
