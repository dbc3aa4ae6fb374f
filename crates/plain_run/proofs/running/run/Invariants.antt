use Rattle.std.specs.Prelude.{◌≡◌}
use Rattle.lx_kernel.specs.Runs.{Run}
use Rattle.pt_schedule.specs.Schedules.{events_left}
use Rattle.plain_run.specs.Notes.{IsNoted}
use Rattle.plain_run.specs.Runs.{RunsTo}
use Rattle.plain_run.specs.Watched.{Tells}
use Rattle.plain_run.proofs.running.run.Given as goal

-- where a run from here on ends is where the run ends
abbrev pub invariant-turns : goal.invariant-turns
invariant-turns g l =
    ((z : Run) → RunsTo l.kernel l.schedule z → RunsTo l.initial.kernel l.initial.schedule z)
    × Tells l.initial.kernel (g.W.Watch.told l.initial.watch) l.kernel (g.W.Watch.told l.watch)
    × (g.W.Watch.begun l.watch ≡ g.W.Watch.begun l.initial.watch)
    × ((first : _) → IsNoted l.initial.kernel l.initial.schedule (g.W.Watch.noting first l.initial.watch) l.kernel
    l.schedule (g.W.Watch.noting first l.watch))

abbrev pub decreases-turns : goal.decreases-turns
decreases-turns g l = events_left l.schedule
