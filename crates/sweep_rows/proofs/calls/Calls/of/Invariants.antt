use Rattle.std.specs.Prelude.{◌≡◌, List, ◌++◌, length}
use Rattle.lx_abi.specs.declared.log.Item.{Item}
use Rattle.sweep_rows.specs.Calls.{AreCalls}
use Rattle.sweep_rows.proofs.calls.Calls.of.Given as goal

-- they are those of the items before those that are left
abbrev pub invariant-loop-item : goal.invariant-loop-item
invariant-loop-item l = (past : List Item) × (past ++ l.left ≡ l.log) × AreCalls l.calls past

abbrev pub decreases-loop-item : goal.decreases-loop-item
decreases-loop-item l = length l.left
