-- Where the first element stands that passes a test.
use Rattle.std.proofs.Common.{ℕ, ◌≡◌, ◌≤◌, Bool, true, false, cond, List, length, Option, Some, None, unwrap_or, refl, nat_lt, not, arith}
use Rattle.std.specs.List.{position_or_len}
use Rattle.std.proofs.lemmas.Bool.Decides.{nat_tests}
use Rattle.std.proofs.lemmas.List.Sums.{prefix_len-le-length}

chosen : (b : Bool) (n k : ℕ) → nat_lt n k ≡ b → n ≤ k → unwrap_or (cond b (Some n) None) k ≡ n
chosen true n k e l = refl
chosen false n k e l = grind (arith, nat_tests)

pub place_or_end : {X : Type 0} (p : X → Bool) (xs : List X) (o : Option ℕ) (r k : ℕ) → o ≡ cond (nat_lt (position_or_len p xs) (length xs)) (Some (position_or_len p xs)) None → r ≡ unwrap_or o k → k ≡ length xs → r ≡ position_or_len p xs
place_or_end p xs o r k e h l = rw (h, e, l) (chosen (nat_lt (position_or_len p xs) (length xs)) (position_or_len p xs) (length xs) refl (prefix_len-le-length (λ x. not (p x)) xs))
