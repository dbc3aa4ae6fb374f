-- The errors that a call is refused with, by its number.
use Rattle.std.specs.Prelude.{ℕ, Bool, ◌&&◌, ◌==◌, List}
use Rattle.std.specs.List.{list_any}

-- rows of a call's number and its errors: one of them has this error for this call
abbrev pub is_error_of : List (ℕ × List ℕ) → ℕ → ℕ → Bool
is_error_of rows number error = list_any (λ row. (row.0 == number) && list_any (λ e. e == error) row.1) rows
