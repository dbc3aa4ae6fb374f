-- Rows of tables, as clauses see them: texts and lists in place of references to them.
use Rattle.std.specs.Prelude.{ℕ, ◌+◌, ◌==◌, ◌&&◌, Bool, true, List, [], ◌∷◌}
use Rattle.std.specs.Borrow.{Bor}
use Rattle.lx_abi.specs.declared.calls.Class.{Class}
use Rattle.lx_abi.specs.declared.calls.Argument.{Argument}
use Rattle.lx_abi.specs.declared.effects.Effects.{Effects}
use Rattle.lx_abi.specs.Calls.{Row}

abbrev pub error_row : ℕ × Bor (List ℕ) × Bor (List ℕ) → ℕ × List ℕ × List ℕ
error_row row = (row.0, row.1.now, row.2.now)

abbrev pub signal_row : ℕ × Bor (List ℕ) → ℕ × List ℕ
signal_row row = (row.0, row.1.now)

abbrev pub call_row : ℕ × Bor (List ℕ) × Bor (List Class) × Effects × Bor (List Argument) × Bor (List Argument) → Row
call_row row = (row.0, row.1.now, row.2.now, row.3.0, row.4.now, row.5.now)

-- the numbers count up by one
abbrev pub counts_from : ℕ → List ℕ → Bool
counts_from n [] = true
counts_from n (m ∷ ms) = (m == n) && counts_from (n + 1) ms
