use Rattle.std.proofs.Common.{◌++◌, ℕ, List}
use Rattle.lx_kernel.specs.Runs.{Run}
use Rattle.sweep_orders.specs.Draws.{IsDrawn}
use Rattle.sweep_orders.proofs.draws.draw.Given as goal

-- the run that is drawn from here on is the run that is drawn
abbrev pub invariant-loop-left : goal.invariant-loop-left
invariant-loop-left l =
    (ps : List ℕ) (z : Run) → IsDrawn ps l.left l.kernel l.chance z
    → IsDrawn (l.pids.items ++ ps) l.turns l.initial.kernel l.initial.chance z

abbrev pub decreases-loop-left : goal.decreases-loop-left
decreases-loop-left l = l.left
