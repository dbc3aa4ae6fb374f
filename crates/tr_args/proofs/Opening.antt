-- A list and its items: what is made at once is what is made item by item.
use Rattle.std.proofs.Common.{ℕ, ◌≡◌, ◌∙◌, ◌==◌, ◌||◌, nat_lt, nat_le, min, Bool, true, false, if◌then◌else◌, List, [], ◌∷◌, ◌++◌, length, take, drop, map, Option, Some, None, Result, Ok, Err, codes, refl, sym, ap, subst, append-nil}
use Rattle.tr_args.specs.declared.lists.Listing.{Listing}
use Rattle.tr_values.specs.Sheets.{Sheet, Shown, Has, Wants, put, ◌>>=◌}
use Rattle.tr_values.specs.Numbers.{pointer}
use Rattle.tr_args.specs.Lists.{comma, item, items, word, words, null_at, most_items, list_read, list}
use Rattle.tr_values.specs.declared.sheet.Needed.{Needed}
use Rattle.tr_values.specs.declared.sheet.Needed.TheVariants.{Wants as Stops, Memory}
use Rattle.tr_args.specs.Progress.{sheet, Finds, Begins, items_at, items_left, end_text, list_shown, list_left, opened_by, opened, listing_of, none_shown, Moves}
use Rattle.tr_args.proofs.Going.{ext}

all_items : (most : ℕ) (some : Bool) (ws : List (List ℕ)) → items most some ws ≡ items_at most some (map word ws)
unfolding items items_at
all_items most some [] = ext (λ s. ap (λ o. Has (sheet o s.left)) (append-nil s.out))
all_items most some (w ∷ ws) = ext (λ s. ap (λ f. item most (word w) (sheet (s.out ++ comma some) s.left) >>= f) (all_items most true ws))

listed : (most : ℕ) (ws : List (List ℕ)) (l : Listing) (x : Sheet) → drop l.next l.addresses.items ≡ map word ws → l.some ≡ false → items_left most l x ≡ items most false ws x
listed most ws l x d n = ap (λ b. items_at most b (drop l.next l.addresses.items) x) n ∙ ap (λ as'. items_at most false as' x) d ∙ ap (λ f. f x) (sym (all_items most false ws))

abbrev fst_of : Option (List ℕ × Bool) → List ℕ
fst_of None = []
fst_of (Some p) = p.0

abbrev snd_of : Option (List ℕ × Bool) → Bool
snd_of None = false
snd_of (Some p) = p.1

whole_list : ℕ → List (List ℕ) → Sheet → Shown
whole_list most ws s = (do
  s ← put (codes "[") s
  s ← items most false (take (min (null_at ws) most_items) ws) s
  put (if nat_lt most_items (null_at ws) then codes ", ...]" else codes "]") s)

opened_at : (b : Bool) (most address : ℕ) (ws : List (List ℕ)) (l : Option Listing) (s : Sheet) → listing_of l ≡ (opened_by b address ws).1 → none_shown l → (if b then whole_list most ws s else pointer address s) ≡ list_left most l (sheet (s.out ++ (opened_by b address ws).0) s.left)
unfolding pointer list_left whole_list items
opened_at true most address ws None s e n = cc
opened_at true most address ws (Some l) s e n =
    let d : drop l.next l.addresses.items ≡ map word (take (min (null_at ws) most_items) ws) = ap fst_of e in
    let c : l.cut ≡ nat_lt most_items (null_at ws) = ap snd_of e in
    ap (λ x. x >>= put (end_text (nat_lt most_items (null_at ws)))) (sym (listed most (take (min (null_at ws) most_items) ws) l (sheet (s.out ++ codes "[") s.left) d n)) ∙ ap (λ b. items_left most l (sheet (s.out ++ codes "[") s.left) >>= put (end_text b)) (sym c)
opened_at false most address ws None s e n = refl
opened_at false most address ws (Some l) s e n = cc

null_list : (b : Bool) (most address : ℕ) (f : Sheet → Shown) (x : Sheet) → b ≡ true → (if b then put (codes "NULL") x else f x) ≡ put (codes "NULL") x
null_list b most address f x e = rw e refl

-- its address is null
pub opens_null : (most : ℕ) (some : Bool) (address : ℕ) (s t : Sheet) → (address == 0) ≡ true → t ≡ sheet ((s.out ++ comma some) ++ codes "NULL") s.left → Moves (list_shown most some address) s (list_left most None) t
unfolding list list_left
opens_null most some address s t e k = subst (λ t. Moves (list_shown most some address) s (list_left most None) t) (sym k) (record {
  front = [];
  rest = refl;
  goes = λ more. rw e refl;
})

-- its pointers weren't read
pub opens_not : (most : ℕ) (some : Bool) (address : ℕ) (s : Sheet) → (address == 0) ≡ false → s.left ≡ [] → list_shown most some address s ≡ Wants address 264
unfolding list
opens_not most some address s e l = rw (e, l) refl

-- its pointers were read
pub opens : (most : ℕ) (some : Bool) (address : ℕ) (bs : List ℕ) (l : Option Listing) (s t : Sheet) → (address == 0) ≡ false → listing_of l ≡ (opened address bs).1 → none_shown l → s.left ≡ bs ∷ t.left → t.out ≡ (s.out ++ comma some) ++ (opened address bs).0 → Moves (list_shown most some address) s (list_left most l) t
unfolding list list_read items whole_list
opens most some address bs l s t e k n left out = record {
  front = bs ∷ [];
  rest = left;
  goes = λ more. rw e (opened_at (nat_lt (null_at (words bs)) (length (words bs)) || nat_le 264 (length bs)) most address (words bs) l (sheet (s.out ++ comma some) more) k n ∙ ap (λ o. list_left most l (sheet o more)) (sym out));
}

abbrev sheet_of : Sheet → Shown → Sheet
sheet_of s (Has t) = t
sheet_of s (Wants a n) = s

pub put_is : (text : List ℕ) (s t : Sheet) → put text s ≡ Has t → t ≡ sheet (s.out ++ text) s.left
put_is text s t e = sym (ap (sheet_of s) e)

pub put_both : (a b : List ℕ) (s t u : Sheet) → put a s ≡ Has t → put b t ≡ Has u → u ≡ sheet ((s.out ++ a) ++ b) s.left
put_both a b s t u e f = put_is b t u f ∙ ap (λ x. sheet (x.out ++ b) x.left) (put_is a s t e)

-- whatever was found
pub opens_found : (r : Result (Option Listing) Needed) (most : ℕ) (some : Bool) (address : ℕ) (bs : List ℕ) (s t u v : Sheet) → (address == 0) ≡ false → s ≡ sheet t.out (bs ∷ t.left) → put (comma some) t ≡ Has u → Finds r (opened address bs) u v → Begins r most (list_shown most some address) s v
opens_found (Ok l) most some address bs s t u v e k p h =
    let i = put_is (comma some) t u p in
    opens most some address bs l s v e h.0 h.1
    (ap (λ x. x.left) k ∙ ap (λ l. bs ∷ l) (sym (ap (λ x. x.left) h.2 ∙ ap (λ x. x.left) i)))
    (ap (λ x. x.out) h.2 ∙ ap (λ x. x.out ++ (opened address bs).0) i ∙ ap (λ o. (o ++ comma some) ++ (opened address bs).0) (sym (ap (λ x. x.out) k)))
opens_found (Err (Stops a n)) most some address bs s t u v e k p h = absurd h
opens_found (Err Memory) most some address bs s t u v e k p h = tt

pub opens_stopped : (stop : Needed) (most : ℕ) (some : Bool) (address : ℕ) (s t : Sheet) → (address == 0) ≡ false → s.left ≡ [] → stop ≡ Stops address 264 → t ≡ s → Begins (Err stop) most (list_shown most some address) s t
opens_stopped stop most some address s t e l k h = subst (λ e. Begins (Err e) most (list_shown most some address) s t) (sym k) (opens_not most some address s e l, h)
