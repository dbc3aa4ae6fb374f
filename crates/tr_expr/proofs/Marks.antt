-- Texts behind a mark.
use Rattle.std.proofs.Common.{ℕ, ◌≡◌, List, [], ◌∷◌, Option, Some, None, refl, sym, arith, option_map, Bor}
use Rattle.std.specs.Option.{MatchOption}
use Rattle.std.proofs.lemmas.Bool.Decides.{nat_tests}
use Rattle.tr_expr.specs.Texts.{after}

after_cons : (mark : ℕ) (rest : List ℕ) → after mark (mark ∷ rest) ≡ Some rest
after_cons mark rest = grind (arith, nat_tests)

after_none : (mark : ℕ) (bs : List ℕ) → ((rest : List ℕ) → bs ≡ mark ∷ rest → ⊥) → None ≡ after mark bs
after_none mark [] h = refl
after_none mark (b ∷ bs) h = grind (arith, nat_tests, h bs)

-- what `strip_prefix` gives
pub after_strip : (mark : ℕ) (bs : List ℕ) (r : Option (Bor (List ℕ))) → MatchOption r ((rest : List ℕ) → bs ≡ mark ∷ rest → ⊥) (λ x. bs ≡ mark ∷ x.now) → option_map (λ x. x.now) r ≡ after mark bs
after_strip mark bs None h = after_none mark bs h
after_strip mark bs (Some x) h = rw h (sym (after_cons mark x.now))
