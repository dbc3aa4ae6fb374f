use Rattle.std.proofs.Common.{◌≡◌, ◌++◌, List, length}
use Rattle.lx_abi.specs.declared.log.Item.{Item}
use Rattle.sweep_rows.specs.Counts.{Counted}
use Rattle.sweep_rows.specs.Entries.{rows_after, rows_of}
use Rattle.sweep_rows.specs.Known.{IsKnown}
use Rattle.sweep_rows.proofs.entries.occurrences.Given as goal

-- those found and those of the items that are left are all
abbrev pub invariant-loop-item : goal.invariant-loop-item
invariant-loop-item l = (past : List Item) × (IsKnown past l.known × (Counted past l.rows
    × (l.rows.found.items ++ rows_after l.set l.follow past l.left ≡ rows_of l.set l.follow l.log)))

abbrev pub decreases-loop-item : goal.decreases-loop-item
decreases-loop-item l = length l.left
