-- Sets of pairs of numbers, of which the second is one of 32 bits.
use Rattle.std.specs.Prelude.{◌≡◌, ℕ, ◌+◌, ◌*◌, ◌/◌, ◌%◌, ◌^◌, ◌<◌, ◌==◌, ◌&&◌, nat_lt, Bool, true, false, Option, Some, None, is_some, if◌then◌else◌}
use Rattle.std.specs.Ordering.{nat_cmp}
use Rattle.std.specs.FinMap as maps
use Rattle.std.specs.FinMap.{FinMap}

-- the pairs as keys
abbrev pub PairSet : Type 0
PairSet = FinMap nat_cmp (Unit {0})

-- a pair as one number
abbrev pub key : ℕ → ℕ → ℕ
key a b = a * 2 ^ 32 + b

-- the second number of a key whose first is a
abbrev pub second_in : ℕ → ℕ → Option ℕ
second_in k a = if k / 2 ^ 32 == a then Some (k % 2 ^ 32) else None

unfoldable pub has : PairSet → ℕ → ℕ → Bool
has s a b = nat_lt b (2 ^ 32) && is_some (maps.get s (key a b))

-- a pair is in it now, or isn't; each other stays
abbrev pub Sets : ℕ → ℕ → Bool → PairSet → PairSet → Type 0
Sets a b there s s' = (p n : ℕ) → has s' p n ≡ if (p == a) && (n == b) then there else has s p n

-- each pair but one stays
abbrev pub KeepsBut : ℕ → ℕ → PairSet → PairSet → Type 0
KeepsBut a b s s' = (p n : ℕ) → (p == a) && (n == b) ≡ false → has s' p n ≡ has s p n

-- the first number above one that passes
abbrev pub IsNextThat : (ℕ → Bool) → ℕ → Option ℕ → Type 0
IsNextThat test n None = (q : ℕ) → n < q → test q ≡ false
IsNextThat test n (Some k) = (n < k) × (test k ≡ true) × ((q : ℕ) → n < q → q < k → test q ≡ false)
