use Rattle.std.proofs.Common.{◌≡◌, ℕ, map, take}
use Rattle.lx_abi.specs.Scripts.{among}
use Rattle.lx_abi.specs.Tables.{call_row}
use Rattle.tr_expr.specs.Items.{is_among, some_row}
use Rattle.tr_expr.proofs.item.calls_in.Given as goal

abbrev pub invariant-loop-row : goal.invariant-loop-row
invariant-loop-row l = (n : ℕ) → among l.numbers.items n ≡ some_row (λ row. is_among l.class row.2) (map call_row (take l.row-index l.row-items)) n
