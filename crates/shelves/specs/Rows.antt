-- Rows that say what the first numbers have in a map.
use Rattle.std.specs.Prelude.{◌≡◌, ℕ, ◌<◌, List, Option, None, get_or}
use Rattle.std.specs.Ordering.{nat_cmp}
use Rattle.std.specs.FinMap as maps
use Rattle.std.specs.FinMap.{FinMap}

-- numbers below this have a row
abbrev pub row_count : ℕ
row_count = 32768

-- the row of each says what it has; a row that isn't there is empty
abbrev pub AreRows : List (Option ℕ) → FinMap nat_cmp ℕ → Type 0
AreRows rows m = (q : ℕ) → q < row_count → get_or rows q None ≡ maps.get m q
