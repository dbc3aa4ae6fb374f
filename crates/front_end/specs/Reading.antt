-- What is read of files and of the input.
use Rattle.std.specs.Prelude.{◌≡◌, ◌≤◌, ◌<◌, ℕ, ◌+◌, min, List, length, take, Option, IfSome}

-- one byte more than so many, as far as a number of 64 bits goes
abbrev pub past : ℕ → ℕ
past limit = min (limit + 1) 18446744073709551615

-- so many bytes at most of those that a reader has, where these are known
abbrev pub IsFirst : Option (List ℕ) → ℕ → List ℕ → Type 0
IsFirst known most bytes = IfSome known (λ all. bytes ≡ take most all)

-- of some file
abbrev pub IsFirstOfFile : {F : Type 0} → (F → Option (List ℕ)) → ℕ → List ℕ → Type 0
IsFirstOfFile {F} remaining most bytes = (file : F) × IsFirst (remaining file) most bytes

-- no more than so many, and all of them
abbrev pub IsAll : Option (List ℕ) → ℕ → List ℕ → Type 0
IsAll known limit bytes =
    (length bytes ≤ limit) × (limit < 18446744073709551615 → IfSome known (λ all. bytes ≡ all))

abbrev pub IsTextOfFile : {F : Type 0} → (F → Option (List ℕ)) → ℕ → List ℕ → Type 0
IsTextOfFile {F} remaining limit text = (file : F) × IsAll (remaining file) limit text
