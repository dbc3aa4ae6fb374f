-- Where so many pages are free, they may be mapped.
use Rattle.std.proofs.Common.{◌≡◌, ℕ, zero, suc, ◌+◌, ◌*◌, ◌%◌, ◌≤◌, ◌&&◌, Bool, true, false, cond, Some, refl, ap, ◌∙◌, arith}
use Rattle.std.specs.Prelude.{nat_le, ◌==◌}
use Rattle.std.specs.Option.{unwrap_or}
use Rattle.std.proofs.lemmas.Bool.Decides.{nat_tests}
use Rattle.rv_mem.specs.Memory.{Memory}
use Rattle.rv_mem.specs.Mapping.{is_unmapped, is_room, greatest_below, highest_free}

below_step : (p : ℕ → Bool) (n a : ℕ) (b : Bool) → p n ≡ b → Some a ≡ cond b (Some n) (greatest_below p n) → (Some a ≡ greatest_below p n → p a ≡ true) → p a ≡ true
below_step p n a true e h rest = ap p (ap (λ o. unwrap_or o 0) h) ∙ e
below_step p n a false e h rest = rest h

greatest_passes : (p : ℕ → Bool) (n a : ℕ) → Some a ≡ greatest_below p n → p a ≡ true
unfolding greatest_below
greatest_passes p zero a h = absurd (cc h)
greatest_passes p (suc n) a h = below_step p n a (p n) refl h (λ g. greatest_passes p n a g)

free_is_room : (m : Memory) (pages low high a : ℕ) → Some a ≡ highest_free m pages low high → is_room m pages low high a ≡ true
unfolding highest_free
free_is_room m pages low high a h = greatest_passes (is_room m pages low high) (high + 1) a h

left_true : (a b : Bool) → (a && b) ≡ true → a ≡ true
left_true true b h = refl
left_true false b h = absurd (cc h)

right_true : (a b : Bool) → (a && b) ≡ true → b ≡ true
right_true true b h = h
right_true false b h = absurd (cc h)

pub free_aligned : (m : Memory) (pages low high a : ℕ) → Some a ≡ highest_free m pages low high → a % 4096 ≡ 0
unfolding is_room
free_aligned m pages low high a h =
    let first = left_true ((a % 4096 == 0) && nat_le low a && nat_le (a + 4096 * pages) high) (is_unmapped m a (4096 * pages)) (free_is_room m pages low high a h) in
    let second = left_true ((a % 4096 == 0) && nat_le low a) (nat_le (a + 4096 * pages) high) first in
    let aligned : (a % 4096 == 0) ≡ true = left_true (a % 4096 == 0) (nat_le low a) second in
    grind (arith, nat_tests)

pub free_within : (m : Memory) (pages low high a : ℕ) → Some a ≡ highest_free m pages low high → a + 4096 * pages ≤ high
unfolding is_room
free_within m pages low high a h =
    let first = left_true ((a % 4096 == 0) && nat_le low a && nat_le (a + 4096 * pages) high) (is_unmapped m a (4096 * pages)) (free_is_room m pages low high a h) in
    let within : nat_le (a + 4096 * pages) high ≡ true = right_true ((a % 4096 == 0) && nat_le low a) (nat_le (a + 4096 * pages) high) first in
    grind (arith, nat_tests)
