use Rattle.std.proofs.Common.{◌≡◌, ℕ, map, take}
use Rattle.lx_abi.specs.Scripts.{among}
use Rattle.lx_abi.specs.Tables.{call_row}
use Rattle.regex.specs.Strings.{matcher_pattern, regex_pattern}
use Rattle.tr_expr.specs.Items.{is_found, some_row}
use Rattle.tr_expr.proofs.item.calls_found.Given as goal

abbrev pub invariant-loop-row : goal.invariant-loop-row
invariant-loop-row l = record {
  same : matcher_pattern l.matcher ≡ regex_pattern l.pattern;
  picks : (n : ℕ) → among l.numbers.items n ≡ some_row (λ row. is_found (regex_pattern l.pattern) row.1) (map call_row (take l.row-index l.row-items)) n;
}
