use Rattle.std.proofs.Common.{◌≡◌, ◌∙◌, ℕ, ap, refl, List, [], ◌∷◌, map}
use Rattle.std.specs.FinMap as maps
use Rattle.std.specs.List.{AllZip, each_same}
use Rattle.std.specs.Vec.{vec_len}
use Rattle.lx_files.specs.Kinds.{NameMap}
use Rattle.lx_files.proofs.path_map.PathMapClone.clone.Goals as goal

abbrev pair : List ℕ → ℕ → List ℕ × ℕ
pair path number = (path, number)

module _ {K : Type 0} (bytes : K → List ℕ) (C : K → K → Type 0) (same : (x y : K) → C x y → bytes y ≡ bytes x) where
  abbrev said : List (K × ℕ) → List (List ℕ × ℕ)
  said es = map (λ e. pair (bytes e.0) e.1) es

  -- entries whose keys are copies say the same
  same_entries : (es fs : List (K × ℕ)) → AllZip (λ p q. C p.0 q.0 × (q.1 ≡ p.1)) es fs → said fs ≡ said es
  same_entries [] [] all = refl
  same_entries [] (f ∷ fs) all = absurd all
  same_entries (e ∷ es) [] all = absurd all
  same_entries (e ∷ es) (f ∷ fs) all =
      ap (λ k. pair k f.1 ∷ said fs) (same e.0 f.0 all.0.0)
      ∙ ap (λ n. pair (bytes e.0) n ∷ said fs) all.0.1
      ∙ ap (λ l. pair (bytes e.0) e.1 ∷ l) (same_entries es fs all.1)

pub returns : goal.returns
returns c = record {
  cases =
      let same = same_entries (λ k. k.items) (λ v w. AllZip (λ x y. y ≡ x) v.items w.items × (vec_len w ≡ vec_len v)) (λ x y h. each_same x.items y.items h.0)
      c.self.inside.tree.entries c.in_ok-clone.field-0.entries c.in_ok-clone.ensures.cases in
      let map_of : List (List ℕ × ℕ) → NameMap = λ l. maps.from_entries l in
      ap map_of same ∙ c.self.view_is;
}
