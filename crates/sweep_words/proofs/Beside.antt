-- Lists that aren't empty.
use Rattle.std.proofs.Common.{◌≡◌, ◌≢◌, ℕ, Bool, false, List, [], ◌∷◌, length, map, sym, ◌∙◌}
use Rattle.std.specs.Prelude.{◌==◌}

pub some_texts : {A : Type 0} (text : A → List ℕ) (xs : List A) (is_empty : Bool) → is_empty ≡ (length xs == 0)
    → is_empty ≡ false → map text xs ≢ []
some_texts text [] is_empty is not_so e = absurd (cc (sym is ∙ not_so))
some_texts text (x ∷ xs) is_empty is not_so e = absurd (cc e)
