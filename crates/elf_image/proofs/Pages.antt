-- Extents one after the other, and the pages that they fill.
use Rattle.std.proofs.Common.{◌≡◌, ℕ, zero, suc, ◌+◌, ◌-◌, ◌*◌, ◌/◌, ◌<◌, ◌≤◌, Bool, true, false, cond, ◌||◌, not, List, [], ◌∷◌, length, get_or, take, drop, min, max, count_by, refl, sym, ap, ◌∙◌, arith}
use mir.Val.{bool_byte}
use Rattle.std.specs.List.{list_any, range_with_len}
use Rattle.std.proofs.lemmas.List.{at_drop_more, take_all, length-drop}
use Rattle.std.proofs.lemmas.List.Sums.{sum_by-cons}
use Rattle.std.proofs.lemmas.Bool.{ltb-false, le-ltb}
use Rattle.elf_image.specs.declared.layout.Extent.{Extent}
use Rattle.elf_image.specs.Layout.{any_share, page_count, own_pages, touches, meets, shares}

pub any_share-step : (es : List Extent) (i : ℕ) (d : Extent) → i < length es → any_share (drop i es) ≡ (list_any (shares (get_or es i d)) (drop (i + 1) es) || any_share (drop (i + 1) es))
any_share-step es i d lt = at_drop_more any_share es i d lt

pub page_count-step : (es : List Extent) (i : ℕ) (d : Extent) → i < length es → page_count (drop i es) ≡ own_pages (get_or es i d) (drop (i + 1) es) + page_count (drop (i + 1) es)
page_count-step es i d lt = at_drop_more page_count es i d lt

-- an extent that shares no byte with those after it is passed over
pub any_share_next : (es : List Extent) (i n : ℕ) (d : Extent) (total : Bool) → i < length es → length es ≤ n + (i + 1) → false ≡ list_any (shares (get_or es i d)) (take n (drop (i + 1) es))
    → any_share (drop i es) ≡ total → any_share (drop (i + 1) es) ≡ total
any_share_next es i n d total lt enough none so_far =
    let e = any_share-step es i d lt in
    let all : take n (drop (i + 1) es) ≡ drop (i + 1) es = take_all n (drop (i + 1) es) (omega (arith, length-drop (i + 1) es)) in
    let others : false ≡ list_any (shares (get_or es i d)) (drop (i + 1) es) = none ∙ ap (list_any (shares (get_or es i d))) all in
    let here : (list_any (shares (get_or es i d)) (drop (i + 1) es) || any_share (drop (i + 1) es)) ≡ any_share (drop (i + 1) es) = rw (← others) refl in
    sym here ∙ sym e ∙ so_far

-- ---- counting pages

abbrev pub bit : Bool → ℕ
bit b = cond b 1 0

pub byte_is_bit : (b : Bool) → bool_byte b ≡ bit b
byte_is_bit true = refl
byte_is_bit false = refl

count_cons : (p : ℕ → Bool) (x : ℕ) (xs : List ℕ) → count_by p (x ∷ xs) ≡ bit (p x) + count_by p xs
count_cons p x xs = sum_by-cons (λ (y : ℕ). bit (p y)) x xs

-- n + 1 numbers from a on pass, perhaps save the last
count_last : (p : ℕ → Bool) (n a : ℕ) → ((k : ℕ) → a ≤ k → k < a + n → p k ≡ true) → count_by p (range_with_len a (suc n)) ≡ n + bit (p (a + n))
count_last p zero a h = let same : a + 0 ≡ a = omega arith in rw same refl
count_last p (suc n) a h =
    let here = h a (omega arith) (omega arith) in
    let rest = count_last p n (a + 1) (λ k le lt. h k (omega arith) (omega arith)) in
    let same : a + 1 + n ≡ a + suc n = omega arith in
    let whole = count_cons p a (range_with_len (a + 1) (suc n)) in
    let one : bit (p a) ≡ 1 = rw here refl in
    let last : bit (p (a + 1 + n)) ≡ bit (p (a + suc n)) = ap (λ (k : ℕ). bit (p k)) same in
    omega (arith, whole, one, rest, last)

-- n + 2 numbers from a on pass, perhaps save the ends
count_ends : (p : ℕ → Bool) (n a : ℕ) → ((k : ℕ) → a < k → k < a + n + 1 → p k ≡ true) → count_by p (range_with_len a (suc (suc n))) ≡ n + bit (p a) + bit (p (a + n + 1))
count_ends p n a h =
    let rest = count_last p n (a + 1) (λ k le lt. h k (omega arith) (omega arith)) in
    let same : a + 1 + n ≡ a + n + 1 = omega arith in
    let whole = count_cons p a (range_with_len (a + 1) (suc n)) in
    let last : bit (p (a + 1 + n)) ≡ bit (p (a + n + 1)) = ap (λ (k : ℕ). bit (p k)) same in
    omega (arith, whole, rest, last)

none_of : (x y : Bool) → (x || y) ≡ false → (x ≡ false) × (y ≡ false)
none_of true y e = absurd cc
none_of false y e = (refl, e)

apart_inside : (a m b n k : ℕ) → a ≤ 4096 * k → 4096 * k + 4096 ≤ a + m → meets a m b n ≡ false → meets (4096 * k) 4096 b n ≡ false
apart_inside a m b n k from to apart =
    let known : min (a + m) (b + n) ≤ max a b = ltb-false _ _ apart in
    le-ltb _ _ (omega (arith, known))

-- no other extent has a byte on a page inside one that shares no byte with them
inside_untouched : (e : Extent) (others : List Extent) (k : ℕ) → e.address ≤ 4096 * k → 4096 * k + 4096 ≤ e.address + e.size → list_any (shares e) others ≡ false → list_any (touches k) others ≡ false
inside_untouched e [] k from to apart = refl
inside_untouched e (b ∷ bs) k from to apart =
    let both = none_of (shares e b) (list_any (shares e) bs) apart in
    rw (apart_inside e.address e.size b.address b.size k from to both.0, inside_untouched e bs k from to both.1) refl

abbrev is_free : List Extent → ℕ → Bool
is_free others p = not (list_any (touches p) others)

-- the pages of an extent on several pages: those inside are its own
pub own_ends : (e : Extent) (others : List Extent) (first last : ℕ) → first ≡ e.address / 4096 → last ≡ (e.address + e.size - 1) / 4096 → first < last → list_any (shares e) others ≡ false
    → last - first - 1 + bit (is_free others first) + bit (is_free others last) ≡ own_pages e others
own_ends e others first last f-is l-is lt apart =
    let n = last - first - 1 in
    let long : (e.address + e.size - 1) / 4096 + 1 - e.address / 4096 ≡ suc (suc n) = omega arith in
    let ends = count_ends (is_free others) n first (λ k above below. ap not (inside_untouched e others k (omega arith) (omega arith) apart)) in
    let same : first + n + 1 ≡ last = omega arith in
    let last_one : bit (is_free others (first + n + 1)) ≡ bit (is_free others last) = ap (λ (k : ℕ). bit (is_free others k)) same in
    let run : own_pages e others ≡ count_by (is_free others) (range_with_len first (suc (suc n))) = rw (long, ← f-is) refl in
    omega (arith, ends, last_one, run)

-- the one page of an extent on one page
pub own_one : (e : Extent) (others : List Extent) (first : ℕ) → first ≡ e.address / 4096 → first ≡ (e.address + e.size - 1) / 4096 → bit (is_free others first) ≡ own_pages e others
own_one e others first f-is l-is =
    let long : (e.address + e.size - 1) / 4096 + 1 - e.address / 4096 ≡ 1 = omega arith in
    let run : own_pages e others ≡ count_by (is_free others) (range_with_len first 1) = rw (long, ← f-is) refl in
    let whole = count_cons (is_free others) first [] in
    omega (arith, run, whole)
