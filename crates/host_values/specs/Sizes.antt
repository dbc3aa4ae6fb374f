-- Bytes are counted before they are written.
use Rattle.std.specs.Prelude.{ℕ, ◌-◌, ◌≤◌, Option, SomeIff}

-- what is left of a budget behind so many bytes, if they are within it
abbrev pub Spends : Option ℕ → ℕ → ℕ → Type 0
Spends left budget size = SomeIff left (size ≤ budget) (budget - size)
