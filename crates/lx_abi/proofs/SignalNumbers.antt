-- Numbers with a fact beside them.
use Rattle.std.proofs.Common.{ℕ, ◌≡◌, Bool, true, false, Some, None, option_map, refl, ap}
use Rattle.std.proofs.Math.Bool.{Bool-set}
use Rattle.lx_abi.specs.Signals.{is_signal, numbered, signal_numbered}

made : (n : ℕ) (b : Bool) (e : is_signal n ≡ b) (p : is_signal n ≡ true) → Some (record { number = n; in_range = p }) ≡ numbered n b e
made n true e p = ap (λ q. Some (record { number = n; in_range = q })) (Bool-set (is_signal n) true p e)
made n false e p = cc

none : (n : ℕ) (b : Bool) (e : is_signal n ≡ b) → b ≡ false → None ≡ numbered n b e
none n true e p = cc
none n false e p = refl

shown : (n : ℕ) (b : Bool) (e : is_signal n ≡ b) → b ≡ true → option_map (λ x. x.number) (numbered n b e) ≡ Some n
shown n true e p = refl
shown n false e p = cc

-- a number in the range
pub in_range : (n : ℕ) (p : is_signal n ≡ true) → Some (record { number = n; in_range = p }) ≡ signal_numbered n
unfolding signal_numbered
in_range n p = made n (is_signal n) refl p

-- a number outside
pub outside : (n : ℕ) → is_signal n ≡ false → None ≡ signal_numbered n
unfolding signal_numbered
outside n p = none n (is_signal n) refl p

-- the number that stands in it
pub number_of : (n : ℕ) → is_signal n ≡ true → option_map (λ x. x.number) (signal_numbered n) ≡ Some n
unfolding signal_numbered
number_of n p = shown n (is_signal n) refl p
