-- Copies of a shelf, and of what is known of the numbers that it lacks.
use Rattle.std.proofs.Common.{◌≡◌, ℕ, zero, suc, true, false, Option, Some, None, refl, sym, ◌∙◌, ap, subst, List, [], ◌∷◌, get_or, rules}
use Rattle.std.specs.List.{AllZip}
use Rattle.std.specs.Prelude.{IsSome, is_some}
use Rattle.std.specs.Ordering.{nat_cmp}
use Rattle.std.specs.Cmp.{nat_cmp_total}
use Rattle.std.specs.FinMap as maps
use Rattle.std.specs.FinMap.{FinMap}
use Rattle.slab.specs.Slab.{Slab, get, IsSlotClone, IsSlabClone}
use Rattle.shelves.specs.declared.vacancies.Vacancies.{Vacancies}
use Rattle.shelves.specs.Lacking.{Knows}
use Rattle.shelves.specs.Shelves.{at_place, shelved, IsShelf}
use Rattle.shelves.specs.Clones.{IsShelfClone}
use Rattle.shelves.proofs.Shelved.{get-shelved}

module _ {V : Type 0} where
  none_again : (o c : Option V) → is_some c ≡ is_some o → o ≡ None → c ≡ None
  none_again o None e none = refl
  none_again o (Some v) e none = absurd (let no : true ≡ false = e ∙ ap is_some none in cc no)

  some_again : (o c : Option V) → is_some c ≡ is_some o → IsSome o → IsSome c
  some_again None c e some = absurd (let no : ⊥ = cc some in no)
  some_again (Some v) (Some w) e some = search rules
  some_again (Some v) None e some = absurd (let no : false ≡ true = e in cc no)

  -- what is known of a map is known of one with the same keys
  pub known_of : (m n : FinMap nat_cmp V) (v w : Vacancies) → ((q : ℕ) → is_some (maps.get n q) ≡ is_some (maps.get m q)) → w ≡ v → Knows m v → Knows n w
  known_of m n v w keys e knows = subst (Knows n) (sym e) (λ k.
      let are = knows k in
      record {
        above = λ q l. none_again (maps.get m q) (maps.get n q) (keys q) (are.above q l);
        lacks = λ q some. ((are.lacks q some).0, none_again (maps.get m q) (maps.get n q) (keys q) (are.lacks q some).1);
        has = λ q l none. some_again (maps.get m q) (maps.get n q) (keys q) (are.has q l none);
      })

  module _ (C : V → V → Type 0) where
    slot : (xs ys : List (Option V)) (p : ℕ) → AllZip (IsSlotClone C) xs ys → IsSlotClone C (get_or xs p None) (get_or ys p None)
    slot [] [] p all = refl
    slot [] (y ∷ ys) p all = absurd all
    slot (x ∷ xs) [] p all = absurd all
    slot (x ∷ xs) (y ∷ ys) zero all = all.0
    slot (x ∷ xs) (y ∷ ys) (suc p) all = slot xs ys p all.1

    -- what stands at a place of the copy
    at : (s t : Slab V) (o : Option ℕ) → IsSlabClone C s t → IsSlotClone C (at_place s o) (at_place t o)
    at s t None z = refl
    at s t (Some p) z = slot s.slots t.slots p z.slots

    as_there : (o c : Option V) → IsSlotClone C o c → is_some c ≡ is_some o
    as_there None c e = ap is_some e
    as_there (Some v) None h = absurd h
    as_there (Some v) (Some w) h = refl

    the_same : ((v w : V) → C v w → w ≡ v) → (o c : Option V) → IsSlotClone C o c → c ≡ o
    the_same f None c e = e
    the_same f (Some v) None h = absurd h
    the_same f (Some v) (Some w) h = ap Some (f v w h)

    pub shelved-clone : (s t : Slab V) (m n : FinMap nat_cmp ℕ) → n ≡ m → IsSlabClone C s t → IsShelfClone C (shelved s m) (shelved t n)
    shelved-clone s t m n e z = record {
      keys = λ q.
          ap is_some (get-shelved t n q) ∙ ap (λ k. is_some (at_place t (maps.get k q))) e
          ∙ as_there (at_place s (maps.get m q)) (at_place t (maps.get m q)) (at s t (maps.get m q) z)
          ∙ sym (ap is_some (get-shelved s m q));
      same = λ f. maps.same_map nat_cmp_total maps.nat_cmp-IsAntisymmetric _ _ (λ q.
          get-shelved t n q ∙ ap (λ k. at_place t (maps.get k q)) e
          ∙ the_same f (at_place s (maps.get m q)) (at_place t (maps.get m q)) (at s t (maps.get m q) z)
          ∙ sym (get-shelved s m q));
    }

    pub IsShelf-clone : (s t : Slab V) (m n : FinMap nat_cmp ℕ) → n ≡ m → IsSlabClone C s t → IsShelf s m → IsShelf t n
    IsShelf-clone s t m n e z whole = subst (IsShelf t) (sym e) (record {
      present = λ k p h. some_again (get s p) (get t p) (as_there (get s p) (get t p) (slot s.slots t.slots p z.slots)) (whole.present k p h);
      apart = whole.apart;
    })
