use Rattle.std.specs.Prelude.{List, Option}
use Rattle.lx_abi.specs.declared.schedule.Event.{Event}
use Rattle.pt_schedule.specs.Schedules.{events_left}
use Rattle.pt_kernel.specs.Attends.{Attended, Notes}
use Rattle.pt_kernel.proofs.attending.attend.Given as goal

-- what is attended to from here on is attended to from the beginning
abbrev pub invariant-events : goal.invariant-events
invariant-events l = (z : Attended) (last : Option (List Event)) → Notes l.host l.schedule l.noted z last → Notes l.initial.host l.initial.schedule l.initial.noted z last

abbrev pub decreases-events : goal.decreases-events
decreases-events l = events_left l.schedule
