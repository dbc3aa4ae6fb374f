use Rattle.std.specs.Prelude.{◌≡◌}
use Rattle.lx_kernel.specs.Runs.{Run}
use Rattle.pt_schedule.specs.Schedules.{events_left}
use Rattle.plain_run.specs.Watched.{Tells}
use Rattle.sweep_faults.specs.Deep.{RunsDeep}
use Rattle.sweep_faults.specs.Heard.{HearsBeside}
use Rattle.sweep_faults.proofs.deep.run_deep.Given as goal

-- where a run from here on ends is where the run ends
abbrev pub invariant-turns : goal.invariant-turns
invariant-turns g l =
    ((z : Run) → RunsDeep l.fn.deep l.kernel l.schedule z → RunsDeep l.fn.deep l.initial.kernel l.initial.schedule z)
    × Tells l.initial.kernel (g.W.Watch.told l.initial.watch) l.kernel (g.W.Watch.told l.watch)
    × (g.W.Watch.begun l.watch ≡ g.W.Watch.begun l.initial.watch) × HearsBeside l.fn.calls l.heard l.kernel.running.log

abbrev pub decreases-turns : goal.decreases-turns
decreases-turns g l = events_left l.schedule
