-- An order among those that were met.
use Rattle.std.proofs.Common.{◌≡◌, ◌∷◌, [], ℕ, List, map, refl, ap}
use Rattle.std.specs.Prelude.{◌||◌}
use Rattle.std.specs.List.{list_any}
use Rattle.std.specs.BTreeMap.{is_at}
use Rattle.std.specs.BTreeSet.{insert_key}
use Rattle.std.specs.Cmp.Lexicographic.{slice_cmp}
use Rattle.std.specs.Ordering.{nat_cmp}
use Rattle.std.specs.declared.cmp.Ordering.{Ordering}
use Rattle.std.specs.declared.cmp.Ordering.TheVariants.{Less, Equal, Greater}
use Rattle.turn_orders.specs.Met.{has, with_order}

module _ {K : Type 0} (text : K → List ℕ) where
  abbrev by_text : K → K → Ordering
  by_text a b = slice_cmp nat_cmp (text a) (text b)

  pub has_text : (ks : List K) (k : K) → list_any (is_at (by_text k)) ks ≡ has (map text ks) (text k)
  has_text [] k = refl
  has_text (x ∷ xs) k = ap (λ b. is_at (by_text k) x || b) (has_text xs k)

  pub with_text : (ks : List K) (k : K) → map text (insert_key by_text ks k) ≡ with_order (map text ks) (text k)
  with_text [] k = refl
  with_text (x ∷ xs) k = go (slice_cmp nat_cmp (text k) (text x)) refl (with_text xs k)
    where
      go : (o : Ordering) → slice_cmp nat_cmp (text k) (text x) ≡ o
          → map text (insert_key by_text xs k) ≡ with_order (map text xs) (text k)
          → map text (insert_key by_text (x ∷ xs) k) ≡ with_order (map text (x ∷ xs)) (text k)
      go Less e more = rw e refl
      go Equal e more = rw e refl
      go Greater e more = rw e (ap (λ zs. text x ∷ zs) more)
