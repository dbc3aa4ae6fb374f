-- What stands at each path, as the files are put there from the last to the first.
use Rattle.std.proofs.Common.{◌≡◌, Bor, ℕ, List, [], ◌∷◌, ◌++◌, Bool, true, false, cond, Option, Some, None}
use Rattle.std.proofs.Common.{refl, sym, ◌∙◌}
use Rattle.std.specs.Prelude.{option_map, find}
use Rattle.std.specs.Option.{option_or, option_copied}
use Rattle.std.specs.Str.{bytes_eq}

pub copied-cond : {A : Type 0} (b : Bool) (v : Bor A) (o : Option (Bor A))
    → option_copied (cond b (Some v) o) ≡ cond b (Some v.now) (option_copied o)
copied-cond true v o = refl
copied-cond false v o = refl

module _ {F : Type 0} (path : F → List ℕ) (content : F → List ℕ) where
  -- the content of the first file at a path
  abbrev pub first_at : List F → List ℕ → Option (List ℕ)
  first_at files p = option_map content (find (λ f. bytes_eq (path f) p) files)

  alone : (b : Bool) (f : F) (old : Option (List ℕ))
      → option_or (option_map content (cond b (Some f) None)) old ≡ cond b (Some (content f)) old
  alone true f old = refl
  alone false f old = refl

  before : (b : Bool) (e : F) (x y : Option F) (old new : Option (List ℕ))
      → option_or (option_map content x) old ≡ option_or (option_map content y) new
      → option_or (option_map content (cond b (Some e) x)) old ≡ option_or (option_map content (cond b (Some e) y)) new
  before true e x y old new h = refl
  before false e x y old new h = h

  -- the last file is put where there is nothing of those before it
  pub put_last : (rest : List F) (f : F) (p : List ℕ) (old new : Option (List ℕ))
      → new ≡ cond (bytes_eq (path f) p) (Some (content f)) old
      → option_or (first_at (rest ++ f ∷ []) p) old ≡ option_or (first_at rest p) new
  put_last [] f p old new h = alone (bytes_eq (path f) p) f old ∙ sym h
  put_last (e ∷ rest) f p old new h =
      let is = λ (g : F). bytes_eq (path g) p in
      before (is e) e (find is (rest ++ f ∷ [])) (find is rest) old new (put_last rest f p old new h)
