use Rattle.std.specs.Prelude.{◌<◌}
use Rattle.pt_schedule.specs.Schedules.{events_left}
use Rattle.sweep_faults.specs.Heard.{HearsBeside}
use Rattle.sweep_faults.specs.Led.{IsAhead, LeadsOn}
use Rattle.sweep_faults.proofs.leading.run_up_to.Given as goal

-- what waits goes through, and the place hasn't come
abbrev pub invariant-turns : goal.invariant-turns
invariant-turns l =
    LeadsOn l.initial.kernel l.initial.schedule l.kernel l.schedule
    × IsAhead l.fn.place l.left l.kernel.running.log × (0 < l.left)
    × HearsBeside l.fn.calls l.heard l.kernel.running.log

abbrev pub decreases-turns : goal.decreases-turns
decreases-turns l = events_left l.schedule
