-- The host after an event, and turns of a process that run instructions.
use Rattle.std.specs.Prelude.{◌≡◌, ℕ, false, Option, Some}
use Rattle.std.specs.FinMap as maps
use Rattle.lx_abi.specs.declared.log.Mode.{Mode}
use Rattle.lx_abi.specs.declared.log.Mode.TheVariants as mode
use Rattle.lx_abi.specs.declared.schedule.Event.{Event}
use Rattle.lx_abi.specs.declared.schedule.Event.TheVariants.{Turn}
use Rattle.lx_model.specs.declared.stage.Task.TheVariants.{Gone}
use Rattle.lx_model.specs.Finite.{at}
use Rattle.lx_turn.specs.Modes.{task_mode}
use Rattle.pt_model.specs.Hosting.{traced_at}
use Rattle.pt_kernel.specs.Hosts.{HostState, readiness_of, event_of}

-- the host after an event
abbrev pub after : HostState → Event → HostState
after h e = record { hosting = (event_of h e).hosting; follow = h.follow; failed = false }

-- where a process stands
abbrev pub mode_at : HostState → ℕ → Option Mode
mode_at h pid =
    task_mode (maps.get h.hosting.running.shared.entries pid) (at Gone h.hosting.running.tasks pid)

-- it runs instructions, and its tracer doesn't hold it
pub record IsRunning (h : HostState) (pid : ℕ) : Type 0 where
  pub whole : h.failed ≡ false
  pub free : (traced_at h.hosting pid).held ≡ false
  pub runs : mode_at h pid ≡ Some mode.Run

-- and its next turn leaves it there
pub record RunsOn (h : HostState) (pid : ℕ) : Type 0 where
  pub running : IsRunning h pid
  pub stays : mode_at (after h (Turn pid)) pid ≡ Some mode.Run

-- the same processes are able
abbrev pub AreAlike : HostState → HostState → Type 0
AreAlike h h' =
    ((readiness_of h').able ≡ (readiness_of h).able) × ((readiness_of h').last_pid ≡ (readiness_of h).last_pid)

-- such a turn leaves able who was able
abbrev pub RunsLeaveAlike : Type 0
RunsLeaveAlike = (h : HostState) (pid : ℕ) → RunsOn h pid → AreAlike h (after h (Turn pid))
