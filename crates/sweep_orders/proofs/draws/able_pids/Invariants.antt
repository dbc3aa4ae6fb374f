use Rattle.std.proofs.Common.{◌++◌, ◌-◌, ℕ, List}
use Rattle.sweep_orders.specs.Draws.{AreAble}
use Rattle.sweep_orders.proofs.draws.able_pids.Given as goal

abbrev pub invariant-loop-pid : goal.invariant-loop-pid
invariant-loop-pid l = (ps : List ℕ) → AreAble l.kernel l.last ps → AreAble l.kernel 0 (l.pids.items ++ ps)

abbrev pub decreases-loop-pid : goal.decreases-loop-pid
decreases-loop-pid l = 0xffff_ffff - l.last
