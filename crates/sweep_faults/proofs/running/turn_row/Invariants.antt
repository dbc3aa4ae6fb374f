use Rattle.std.specs.Prelude.{◌≡◌, ◌≤◌, ◌-◌}
use Rattle.lx_kernel.specs.Runs.{mode_in}
use Rattle.plain_run.specs.Watched.{Tells}
use Rattle.sweep_faults.specs.Heard.{HearsBeside}
use Rattle.sweep_faults.proofs.Rows.{Made}
use Rattle.sweep_faults.proofs.running.turn_row.Given as goal

-- so many turns of the row were made, and there is another; what they logged was told
abbrev pub invariant-row : goal.invariant-row
invariant-row g l =
    (l.made ≤ l.fn.more) × Made l.fn.fault l.initial.kernel l.fn.pid l.made l.kernel
    × Tells l.initial.kernel (g.W.Watch.told l.initial.watch) l.kernel (g.W.Watch.told l.watch)
    × (g.W.Watch.begun l.watch ≡ g.W.Watch.begun l.initial.watch) × HearsBeside l.fn.calls l.heard l.kernel.running.log
    × (l.mode ≡ mode_in l.kernel l.fn.pid)

abbrev pub decreases-row : goal.decreases-row
decreases-row g l = l.fn.more - l.made
