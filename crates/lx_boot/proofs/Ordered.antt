-- Neighbours in order tell of all.
use Rattle.std.proofs.Common.{◌≡◌, ℕ, Bool, true, false, Option, Some, None, List, [], ◌∷◌, length, take, get_or, refl, sym, ap, ◌∙◌, eqb, arith, if◌then◌else◌, bytes_eq, ⊎_elim, ◌⊎◌, inl, inr, subst}
use Rattle.std.specs.Prelude.{IfSome, ◌&&◌, ◌||◌, ◌==◌, not, nat_le, nat_lt}
use Rattle.std.specs.List.{list_any, IsDistinct, AllByRecursion}
use Rattle.std.specs.Cmp.Lexicographic.{pointwise}
use Rattle.std.specs.List.Sorted.{IsPermutation}
use Rattle.std.proofs.lemmas.Bool.{or_cases, or_parts, or_left, or_right, or_from}
use Rattle.std.proofs.lemmas.Bool.Decides.{nat_tests}
use Rattle.std.proofs.lemmas.List.Sorted.{list_any-IsPermutation, IsPermutation-sym}
use Rattle.std.proofs.lemmas.Map.Keys.{IsDistinct-IsPermutation}
use Rattle.lx_abi.specs.declared.boot.GuestFile.{GuestFile}
use Rattle.lx_boot.specs.declared.neighbours.Told.{Told}
use Rattle.lx_boot.specs.Boots.{is_bad_path, is_misplaced, has_bad_path, has_duplicate}
use Rattle.lx_boot.specs.Paths.{is_under}
use Rattle.lx_abi.specs.Limits.{most_nodes}
use Rattle.lx_boot.specs.Limits.{nodes}
use Rattle.lx_boot.proofs.Shuffled.{nodes_again}
use Rattle.lx_boot.specs.Neighbours.{rank, precedes, AreOrdered, under_next, twice_next, has_under, IsTold}

-- paths in order

no_slash : (b c : ℕ) (p : Bool) → not (b == 47) ≡ true → (if b == c then p else nat_lt (rank b) (rank c)) ≡ true → not (c == 47) ≡ true
no_slash b c p h k = grind (arith, nat_tests)

further : (a b c : ℕ) (p q r : Bool) → (p ≡ true → q ≡ true → r ≡ true) → (if a == b then p else nat_lt (rank a) (rank b)) ≡ true → (if b == c then q else nat_lt (rank b) (rank c)) ≡ true → (if a == c then r else nat_lt (rank a) (rank c)) ≡ true
further a b c p q r f h k = grind (arith, nat_tests)

unlike : (a b : ℕ) (p u s : Bool) → (p ≡ true → (u && s) ≡ false) → (if a == b then p else nat_lt (rank a) (rank b)) ≡ true → ((eqb a b && u) && s) ≡ false
unlike a b p u s f h = grind (arith, nat_tests)

unlike_above : (a b : ℕ) (p u s : Bool) → (p ≡ true → (u && s) ≡ false) → (if a == b then p else nat_lt (rank a) (rank b)) ≡ true → ((eqb b a && u) && s) ≡ false
unlike_above a b p u s f h = grind (arith, nat_tests)

unlike_itself : (a : ℕ) (u s : Bool) → (u && s) ≡ false → ((eqb a a && u) && s) ≡ false
unlike_itself a u s f = grind (arith, nat_tests)

differ : (a b : ℕ) (p u : Bool) → (p ≡ true → u ≡ false) → (if a == b then p else nat_lt (rank a) (rank b)) ≡ true → (eqb a b && u) ≡ false
differ a b p u f h = grind (arith, nat_tests)

pub precedes_trans : (t : Bool) (x y z : List ℕ) → precedes t x y ≡ true → precedes t y z ≡ true → precedes t x z ≡ true
unfolding precedes
precedes_trans t [] [] z h k = k
precedes_trans t [] (b ∷ y) [] h k = absurd (cc)
precedes_trans t [] (b ∷ y) (c ∷ z) h k = no_slash b c (precedes t y z) h k
precedes_trans t (a ∷ x) [] z h k = absurd (cc)
precedes_trans t (a ∷ x) (b ∷ y) [] h k = absurd (cc)
precedes_trans t (a ∷ x) (b ∷ y) (c ∷ z) h k = further a b c (precedes t x y) (precedes t y z) (precedes t x z) (precedes_trans t x y z) h k

off : (b : ℕ) → not (b == 47) ≡ true → (b == 47) ≡ false
off b h = grind (arith, nat_tests)

pub not_under : (t : Bool) (x y : List ℕ) → precedes t x y ≡ true → is_under y x ≡ false
unfolding precedes
not_under t [] [] h = refl
not_under t [] (b ∷ y) h = off b h
not_under t (a ∷ x) [] h = refl
not_under t (a ∷ x) (b ∷ y) h = unlike a b (precedes t x y) (pointwise eqb x (take (length x) y)) (get_or y (length x) 0 == 47) (not_under t x y) h

pub not_above : (t : Bool) (x y : List ℕ) → precedes t x y ≡ true → is_under x y ≡ false
unfolding precedes
not_above t [] [] h = refl
not_above t [] (b ∷ y) h = refl
not_above t (a ∷ x) [] h = absurd (cc)
not_above t (a ∷ x) (b ∷ y) h = unlike_above a b (precedes t x y) (pointwise eqb y (take (length y) x)) (get_or x (length y) 0 == 47) (not_above t x y) h

pub not_itself : (x : List ℕ) → is_under x x ≡ false
not_itself [] = refl
not_itself (a ∷ x) = unlike_itself a (pointwise eqb x (take (length x) x)) (get_or x (length x) 0 == 47) (not_itself x)

pub not_same : (x y : List ℕ) → precedes false x y ≡ true → bytes_eq x y ≡ false
unfolding precedes
not_same [] [] h = absurd (cc)
not_same [] (b ∷ y) h = refl
not_same (a ∷ x) [] h = refl
not_same (a ∷ x) (b ∷ y) h = differ a b (precedes false x y) (bytes_eq x y) (not_same x y) h

-- files in order: each path precedes those behind it

behind : (t : Bool) (f g : GuestFile) (files : List GuestFile) → precedes t f.path g.path ≡ true → AllByRecursion (λ h. precedes t g.path h.path ≡ true) files → AllByRecursion (λ h. precedes t f.path h.path ≡ true) files
behind t f g [] p all = tt
behind t f g (h ∷ files) p all = (precedes_trans t f.path g.path h.path p all.0, behind t f g files p all.1)

more_ordered : (t : Bool) (f g : GuestFile) (files : List GuestFile) → precedes t f.path g.path ≡ true → AreOrdered t (g ∷ files) → AreOrdered t (f ∷ g ∷ files)
unfolding AreOrdered
more_ordered t f g files p ordered = ((p, behind t f g files p ordered.0), ordered)

-- none is under another

none_of_two : (p q : GuestFile → Bool) (files : List GuestFile) → list_any p files ≡ false → list_any q files ≡ false → list_any (λ f. p f || q f) files ≡ false
none_of_two p q [] h k = refl
none_of_two p q (f ∷ files) h k =
    let a = or_parts (p f) (list_any p files) h in
    let b = or_parts (q f) (list_any q files) k in
    or_from _ _ (or_from _ _ a.0 b.0) (none_of_two p q files a.1 b.1)

none_above : (t : Bool) (f : GuestFile) (files : List GuestFile) → AllByRecursion (λ g. precedes t f.path g.path ≡ true) files → list_any (λ g. is_under f.path g.path) files ≡ false
none_above t f [] all = refl
none_above t f (g ∷ files) all = or_from _ _ (not_above t f.path g.path all.0) (none_above t f files all.1)

none_below : (t : Bool) (f : GuestFile) (files : List GuestFile) → AllByRecursion (λ g. precedes t f.path g.path ≡ true) files → list_any (λ g. is_under g.path f.path) files ≡ false
none_below t f [] all = refl
none_below t f (g ∷ files) all = or_from _ _ (not_under t f.path g.path all.0) (none_below t f files all.1)

none_under : (t : Bool) (files : List GuestFile) → AreOrdered t files → has_under files ≡ false
unfolding AreOrdered
none_under t [] ordered = refl
none_under t (f ∷ files) ordered =
    or_from _ _ (or_from _ _ (not_itself f.path) (none_above t f files ordered.0))
    (none_of_two (λ g. is_under g.path f.path) (λ g. list_any (λ h. is_under g.path h.path) files) files (none_below t f files ordered.0) (none_under t files ordered.1))

none_twice : (files : List GuestFile) → AreOrdered false files → has_duplicate files ≡ false
unfolding AreOrdered
none_twice [] ordered = refl
none_twice (f ∷ files) ordered = or_from _ _ (go files ordered.0) (none_twice files ordered.1)
  where
    go : (gs : List GuestFile) → AllByRecursion (λ g. precedes false f.path g.path ≡ true) gs → list_any (λ g. bytes_eq f.path g.path) gs ≡ false
    go [] all = refl
    go (g ∷ gs) all = or_from _ _ (not_same f.path g.path all.0) (go gs all.1)

-- one is under another

still : (p q : GuestFile → Bool) (files : List GuestFile) → list_any q files ≡ true → list_any (λ f. p f || q f) files ≡ true
still p q [] h = h
still p q (f ∷ files) h = ⊎_elim (λ a. or_left _ _ (or_right (p f) (q f) a)) (λ a. or_right _ _ (still p q files a)) (or_cases (q f) (list_any q files) h)

still_under : (f : GuestFile) (files : List GuestFile) → has_under files ≡ true → has_under (f ∷ files) ≡ true
still_under f files h = or_right _ _ (still (λ g. is_under g.path f.path) (λ g. list_any (λ k. is_under g.path k.path) files) files h)

-- what is told of neighbours: p is told, or q tells on
told_true : (b p : Bool) (rest : Option Bool) → (if b then Some true else if p then rest else None) ≡ Some true → (b ≡ true) ⊎ (rest ≡ Some true)
told_true true p rest h = inl refl
told_true false true rest h = inr h
told_true false false rest h = absurd (cc)

told_false : (b p : Bool) (rest : Option Bool) → (if b then Some true else if p then rest else None) ≡ Some false → (p ≡ true) × (rest ≡ Some false)
told_false true p rest h = absurd (cc)
told_false false true rest h = (refl, h)
told_false false false rest h = absurd (cc)

next_under : (f : GuestFile) (files : List GuestFile) → under_next f files ≡ Some true → has_under (f ∷ files) ≡ true
unfolding under_next
next_under f [] h = absurd (cc)
next_under f (g ∷ files) h =
    ⊎_elim (λ e. or_right _ _ (or_left _ _ (or_left _ _ e))) (λ k. still_under f (g ∷ files) (next_under g files k))
    (told_true (is_under g.path f.path) (precedes true f.path g.path) (under_next g files) h)

next_in_order : (f : GuestFile) (files : List GuestFile) → under_next f files ≡ Some false → AreOrdered true (f ∷ files)
unfolding under_next AreOrdered
next_in_order f [] h = (tt, tt)
next_in_order f (g ∷ files) h =
    let told = told_false (is_under g.path f.path) (precedes true f.path g.path) (under_next g files) h in
    more_ordered true f g files told.0 (next_in_order g files told.1)

next_twice : (f : GuestFile) (files : List GuestFile) → twice_next f files ≡ Some true → has_duplicate (f ∷ files) ≡ true
unfolding twice_next
next_twice f [] h = absurd (cc)
next_twice f (g ∷ files) h =
    ⊎_elim (λ e. or_left _ _ (or_left _ _ e)) (λ k. or_right _ _ (next_twice g files k))
    (told_true (bytes_eq f.path g.path) (precedes false f.path g.path) (twice_next g files) h)

next_apart : (f : GuestFile) (files : List GuestFile) → twice_next f files ≡ Some false → AreOrdered false (f ∷ files)
unfolding twice_next AreOrdered
next_apart f [] h = (tt, tt)
next_apart f (g ∷ files) h =
    let told = told_false (bytes_eq f.path g.path) (precedes false f.path g.path) (twice_next g files) h in
    more_ordered false f g files told.0 (next_apart g files told.1)

tells : (r : Option Bool) (b : Bool) → (r ≡ Some true → b ≡ true) → (r ≡ Some false → b ≡ false) → IfSome r (λ x. x ≡ b)
tells None b known nothing = tt
tells (Some true) b found none = sym (found refl)
tells (Some false) b found none = sym (none refl)

pub under_told : (f : GuestFile) (files : List GuestFile) → IfSome (under_next f files) (λ b. b ≡ has_under (f ∷ files))
under_told f files = tells (under_next f files) (has_under (f ∷ files)) (next_under f files) (λ h. none_under true (f ∷ files) (next_in_order f files h))

pub twice_told : (f : GuestFile) (files : List GuestFile) → IfSome (twice_next f files) (λ b. b ≡ has_duplicate (f ∷ files))
twice_told f files = tells (twice_next f files) (has_duplicate (f ∷ files)) (next_twice f files) (λ h. none_twice (f ∷ files) (next_apart f files h))

-- in another order

under_again : (xs ys : List GuestFile) → IsPermutation xs ys → has_under xs ≡ has_under ys
under_again xs ys h =
    let inner : (f : GuestFile) → list_any (λ g. is_under f.path g.path) xs ≡ list_any (λ g. is_under f.path g.path) ys = λ f. list_any-IsPermutation (λ g. is_under f.path g.path) xs ys h in
    ap (λ (p : GuestFile → Bool). list_any p xs) (λ i f. inner f i) ∙ list_any-IsPermutation (λ f. list_any (λ g. is_under f.path g.path) ys) xs ys h

abbrev same_path : GuestFile → GuestFile → Bool
same_path f g = bytes_eq f.path g.path

apart : (files : List GuestFile) → has_duplicate files ≡ false → IsDistinct same_path files
unfolding IsDistinct
apart [] h = tt
apart (f ∷ files) h =
    let parts = or_parts (list_any (same_path f) files) (has_duplicate files) h in
    (others files parts.0, apart files parts.1)
  where
    others : (gs : List GuestFile) → list_any (same_path f) gs ≡ false → AllByRecursion (λ g. same_path f g ≡ false) gs
    others [] k = tt
    others (g ∷ gs) k = let parts = or_parts (same_path f g) (list_any (same_path f) gs) k in (parts.0, others gs parts.1)

not_twice : (files : List GuestFile) → IsDistinct same_path files → has_duplicate files ≡ false
unfolding IsDistinct
not_twice [] h = refl
not_twice (f ∷ files) h = or_from _ _ (others files h.0) (not_twice files h.1)
  where
    others : (gs : List GuestFile) → AllByRecursion (λ g. same_path f g ≡ false) gs → list_any (same_path f) gs ≡ false
    others [] k = refl
    others (g ∷ gs) k = or_from _ _ k.0 (others gs k.1)

same_byte : (a b : ℕ) (p q : Bool) → p ≡ q → (eqb a b && p) ≡ (eqb b a && q)
same_byte a b p q e = grind (arith, nat_tests)

flipped : (x y : List ℕ) → bytes_eq x y ≡ bytes_eq y x
flipped [] [] = refl
flipped [] (b ∷ y) = refl
flipped (a ∷ x) [] = refl
flipped (a ∷ x) (b ∷ y) = same_byte a b (bytes_eq x y) (bytes_eq y x) (flipped x y)

kept : (xs ys : List GuestFile) → IsPermutation xs ys → has_duplicate xs ≡ false → has_duplicate ys ≡ false
kept xs ys h e = not_twice ys (IsDistinct-IsPermutation same_path (λ f g. flipped f.path g.path) xs ys h (apart xs e))

alike : (a b : Bool) → (a ≡ false → b ≡ false) → (b ≡ false → a ≡ false) → a ≡ b
alike true true f g = refl
alike true false f g = g refl
alike false b f g = sym (f refl)

twice_again : (xs ys : List GuestFile) → IsPermutation xs ys → has_duplicate xs ≡ has_duplicate ys
twice_again xs ys h = alike (has_duplicate xs) (has_duplicate ys) (kept xs ys h) (kept ys xs (IsPermutation-sym xs ys h))

pub told_again : (xs ys : List GuestFile) (told : Told) → IsPermutation xs ys → IsTold ys told → IsTold xs told
told_again xs ys told h k = record {
  under = subst (λ b. IfSome told.under (λ x. x ≡ b)) (sym (under_again xs ys h)) k.under;
  twice = subst (λ b. IfSome told.twice (λ x. x ≡ b)) (sym (twice_again xs ys h)) k.twice;
  few = subst (λ n. IfSome told.few (λ x. x ≡ nat_le n most_nodes)) (nodes_again xs ys h) k.few;
}

pub told_of : (all : List GuestFile) (f : GuestFile) (files : List GuestFile) (u t w : Option Bool) → all ≡ f ∷ files → u ≡ under_next f files → t ≡ twice_next f files
    → IfSome w (λ b. b ≡ nat_le (nodes all) most_nodes) → IsTold all (record { under = u; twice = t; few = w })
told_of all f files u t w e p q r = record {
  under = subst (λ (l : List GuestFile). IfSome u (λ b. b ≡ has_under l)) (sym e) (subst (λ (r : Option Bool). IfSome r (λ b. b ≡ has_under (f ∷ files))) (sym p) (under_told f files));
  twice = subst (λ (l : List GuestFile). IfSome t (λ b. b ≡ has_duplicate l)) (sym e) (subst (λ (r : Option Bool). IfSome r (λ b. b ≡ has_duplicate (f ∷ files))) (sym q) (twice_told f files));
  few = r;
}

-- where none lies under the one before it, the files are in order
pub in_order_where : (all : List GuestFile) (f : GuestFile) (files : List GuestFile) (u : Option Bool) → all ≡ f ∷ files → u ≡ under_next f files → u ≡ Some false → AreOrdered true all
in_order_where all f files u e p h = subst (AreOrdered true) (sym e) (next_in_order f files (sym p ∙ h))

-- bad paths apart from those under others

either : (p q : GuestFile → Bool) (files : List GuestFile) → (list_any p files || list_any q files) ≡ list_any (λ f. p f || q f) files
either p q [] = refl
either p q (f ∷ files) = shuffled (p f) (q f) (list_any p files) (list_any q files) ∙ ap (λ b. (p f || q f) || b) (either p q files)
  where
    shuffled : (a b c d : Bool) → ((a || c) || (b || d)) ≡ ((a || b) || (c || d))
    shuffled true b c d = refl
    shuffled false true true d = refl
    shuffled false true false d = refl
    shuffled false false c d = refl

bad_or_under : (files : List GuestFile) → (list_any (λ f. is_bad_path f.path) files || has_under files) ≡ has_bad_path files
unfolding is_misplaced
bad_or_under files = either (λ f. is_bad_path f.path) (λ f. list_any (λ g. is_under f.path g.path) files) files

abbrev is_bad : GuestFile → Bool
is_bad f = is_bad_path f.path

pub bad_tells : (files : List GuestFile) (r : Bool) → r ≡ list_any is_bad files → r ≡ true → r ≡ has_bad_path files
bad_tells files r e h = h ∙ sym (or_left (list_any is_bad files) (has_under files) (sym e ∙ h)) ∙ bad_or_under files

pub under_tells : (files : List GuestFile) (r s : Bool) → r ≡ list_any is_bad files → r ≡ false → s ≡ has_under files → s ≡ has_bad_path files
under_tells files r s e h k = k ∙ ap (λ b. b || has_under files) (sym h ∙ e) ∙ bad_or_under files
