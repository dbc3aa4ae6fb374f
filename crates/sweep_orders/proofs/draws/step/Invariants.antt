use Rattle.std.proofs.Common.{◌<◌, ℕ}
use Rattle.lx_kernel.specs.Runs.{Run}
use Rattle.sweep_orders.specs.Draws.{IsStep}
use Rattle.sweep_orders.proofs.draws.step.Given as goal

-- a step from here on ends where the step does
abbrev pub invariant-turns : goal.invariant-turns
invariant-turns l =
    (0 < l.left)
    × ((after : ℕ) (z : Run) → IsStep l.left l.kernel l.fn.pid after z → IsStep l.fn.turns l.initial.kernel l.fn.pid after z)

abbrev pub decreases-turns : goal.decreases-turns
decreases-turns l = l.left
