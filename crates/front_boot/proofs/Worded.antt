-- The words of a boot.
use Rattle.std.proofs.Common.{◌≡◌, ℕ, Bool, List, ap, ◌∙◌}
use Rattle.front_boot.specs.Boots.{Words}

abbrev pub words_with : Bool → List (List ℕ) → List (List ℕ) → List (List ℕ) → List (List ℕ) → Words
words_with follow f d e p =
    record { files = f; directories = d; environment = e; program = p; follow = follow }

pub same_words : (follow : Bool) (f f' d d' e e' p p' : List (List ℕ)) → f ≡ f' → d ≡ d' → e ≡ e' → p ≡ p'
    → words_with follow f d e p ≡ words_with follow f' d' e' p'
same_words follow f f' d d' e e' p p' sf sd se sp =
    ap (λ x. words_with follow x d e p) sf ∙ ap (λ x. words_with follow f' x e p) sd
    ∙ ap (λ x. words_with follow f' d' x p) se ∙ ap (λ x. words_with follow f' d' e' x) sp
