use Rattle.std.proofs.Common.{◌≡◌, ◌++◌, List, length}
use Rattle.std.specs.Vec.Iter.{into_iter_items, into_iter_len}
use Rattle.sweep_rows.specs.declared.row.Row.{Row}
use Rattle.sweep_command.specs.Checks.{AreJudged}
use Rattle.sweep_command.proofs.judging.judge_rows.Given as goal

-- rows of those that are left are the last of all
abbrev pub invariant-loop-row : goal.invariant-loop-row
invariant-loop-row g l =
    ((more : List Row) → AreJudged l.setup l.reference (into_iter_items l.row-iterator) more
    → AreJudged l.setup l.reference l.fn.rows.items (l.told.items ++ more))
    × (into_iter_len l.row-iterator ≡ length (into_iter_items l.row-iterator))
