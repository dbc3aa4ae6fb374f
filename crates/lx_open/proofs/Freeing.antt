-- The lowest free descriptor, also once one is taken.
use Rattle.std.proofs.Common.{◌≡◌, ℕ, zero, suc, ◌+◌, ◌<◌, Bool, true, false, cond, List, [], ◌∷◌, Option, Some, None, refl, ap, sym, ◌∙◌, arith}
use Rattle.std.specs.Prelude.{◌==◌, ◌&&◌, not, is_none, find, IfSome}
use Rattle.std.specs.List.{range_with_len}
use Rattle.std.proofs.lemmas.Bool.Decides.{nat_tests}
use Rattle.std.specs.Ordering.{nat_cmp, is_eq}
use Rattle.std.specs.Cmp.{nat_cmp_total}
use Rattle.std.specs.FinMap as maps
use Rattle.lx_open.specs.Kinds.{Slot, SlotMap}
use Rattle.lx_open.specs.Opens.{pair, free, free_but}
use Rattle.lx_open.specs.Rows.{Rows, slot_at, flat}
use Rattle.lx_open.proofs.Flat.{get-flat}

same_find : (f g : ℕ → Bool) → ((x : ℕ) → f x ≡ g x) → (xs : List ℕ) → find f xs ≡ find g xs
same_find f g h [] = refl
same_find f g h (x ∷ xs) = ap (λ b. cond b (Some x) (find f xs)) (h x) ∙ ap (cond (g x) (Some x)) (same_find f g h xs)

same_pair : (pid first fd : ℕ) → is_eq (nat_cmp (pair pid fd) (pair pid first)) ≡ (fd == first)
same_pair pid first fd = grind (arith, nat_tests)

is_free : (slots : SlotMap) (pid first : ℕ) (s : Slot) (fd : ℕ) → (not (fd == first) && is_none (maps.get slots (pair pid fd))) ≡ is_none (maps.get (maps.insert slots (pair pid first) s) (pair pid fd))
is_free slots pid first s fd =
    go (fd == first) (maps.get slots (pair pid fd))
    ∙ ap is_none (ap (λ b. cond b (Some s) (maps.get slots (pair pid fd))) (sym (same_pair pid first fd)) ∙ sym (maps.get-insert nat_cmp_total slots (pair pid first) s (pair pid fd)))
  where
    go : (b : Bool) (o : Option Slot) → (not b && is_none o) ≡ is_none (cond b (Some s) o)
    go true o = refl
    go false o = refl

pub free_then : (slots : SlotMap) (pid first : ℕ) (s : Slot) → free_but slots pid first ≡ free (maps.insert slots (pair pid first) s) pid
unfolding free
free_then slots pid first s = same_find _ _ (is_free slots pid first s) (range_with_len 0 256)

-- The lowest free descriptor of a row.

find_alike : (f g : ℕ → Bool) (k n : ℕ) → ((x : ℕ) → x < n + k → f x ≡ g x) → find f (range_with_len n k) ≡ find g (range_with_len n k)
find_alike f g zero n h = refl
find_alike f g (suc k) n h =
    ap (λ b. cond b (Some n) (find f (range_with_len (n + 1) k))) (h n (omega arith))
    ∙ ap (cond (g n) (Some n)) (find_alike f g k (n + 1) (λ x lt. h x (omega (arith, lt))))

at_slot : (rows : Rows) (pid fd : ℕ) → fd < 256 → is_none (slot_at rows pid fd) ≡ is_none (maps.get (flat rows) (pair pid fd))
at_slot rows pid fd lt = ap is_none (sym (get-flat rows pid fd lt))

pub free_flat : (rows : Rows) (pid : ℕ) → find (λ q. is_none (slot_at rows pid q)) (range_with_len 0 256) ≡ free (flat rows) pid
unfolding free
free_flat rows pid = find_alike _ _ 256 0 (λ x lt. at_slot rows pid x (omega (arith, lt)))

pub free_but_flat : (rows : Rows) (pid first : ℕ) → find (λ q. not (q == first) && is_none (slot_at rows pid q)) (range_with_len 0 256) ≡ free_but (flat rows) pid first
free_but_flat rows pid first = find_alike _ _ 256 0 (λ x lt. ap (λ b. not (x == first) && b) (at_slot rows pid x (omega (arith, lt))))

-- it names nothing in the map
pub none_in_flat : (rows : Rows) (pid : ℕ) (r : Option ℕ) → IfSome r (λ fd. fd < 256) → IfSome r (λ fd. slot_at rows pid fd ≡ None) → IfSome r (λ fd. maps.get (flat rows) (pair pid fd) ≡ None)
none_in_flat rows pid None small none = none
none_in_flat rows pid (Some fd) small none = get-flat rows pid fd small ∙ none
