-- What is left of a list, of a row and of a half, part by part.
use Rattle.std.proofs.Common.{ℕ, suc, ◌≡◌, ◌∙◌, ◌+◌, ◌<◌, ◌≤◌, Bool, true, List, [], ◌∷◌, length, drop, get_or, Option, Some, None, Result, Err, refl, sym, ap, subst, append-nil, arith, drop-cons, ◌⊎◌, inl, inr}
use Rattle.std.specs.List.{slice_get}
use Rattle.std.proofs.lemmas.Option.{slice_get_cases, slice_get_within, get_or_from_slice_get}
use Rattle.std.proofs.Math.ListN.{drop_of_length-le}
use Rattle.lx_abi.specs.declared.calls.Argument.{Argument}
use Rattle.tr_args.specs.declared.context.Context.{Context}
use Rattle.tr_args.specs.declared.lists.Listing.{Listing}
use Rattle.tr_args.specs.declared.progress.Row.{Row}
use Rattle.tr_values.specs.declared.sheet.Needed.{Needed}
use Rattle.tr_values.specs.declared.sheet.Needed.TheVariants.{Wants as Stops, Memory}
use Rattle.tr_args.specs.declared.progress.Stage.TheVariants.{Under}
use Rattle.tr_values.specs.Sheets.{Sheet, Shown, Has, put, Leaves, ◌>>=◌}
use Rattle.tr_args.specs.Lists.{comma, item}
use Rattle.tr_args.specs.Kinds.{next_argument}
use Rattle.tr_args.specs.Arguments.{place, arguments}
use Rattle.tr_args.specs.Progress.{sheet, items_at, items_left, end_text, list_left, row_left, behind, stage_left, Moves, Takes, Goes, Begins}
use Rattle.tr_args.proofs.Moving.{same, behind_it, with_rest, on, on_goes, stopped, stopped_before, put_goes}

-- functions that are the same everywhere
pub ext : {f g : Sheet → Shown} → ((x : Sheet) → f x ≡ g x) → f ≡ g
ext h = λ i x. h x i

-- Lists

none_at : (xs : List ℕ) (n : ℕ) → slice_get xs n ≡ None → ((x : ℕ) × (n < length xs) × (slice_get xs n ≡ Some x) × (get_or xs n x ≡ x)) ⊎ ((length xs ≤ n) × (slice_get xs n ≡ None)) → drop n xs ≡ []
none_at xs n h (inl p) = let e : Some p.0 ≡ None = sym p.2 ∙ h in cc
none_at xs n h (inr p) = drop_of_length-le xs p.0

pub items_none : (most : ℕ) (l : Listing) (s : Sheet) → slice_get l.addresses.items l.next ≡ None → Moves (items_left most l) s (λ x. Has x) s
unfolding items_at
items_none most l s h = same (items_left most l) (λ x. Has x) s (λ x. ap (λ d. items_at most l.some d x) (none_at l.addresses.items l.next h (slice_get_cases l.addresses.items l.next).1))

first_at : (xs : List ℕ) (n a : ℕ) → slice_get xs n ≡ Some a → drop n xs ≡ a ∷ drop (n + 1) xs
first_at xs n a h =
    let e : suc n ≡ n + 1 = omega arith in
    drop-cons xs n a (slice_get_within xs n a h) ∙ ap (λ x. x ∷ drop (suc n) xs) (get_or_from_slice_get xs n a a h) ∙ ap (λ k. a ∷ drop k xs) e

items_are : (most : ℕ) (l : Listing) (a : ℕ) → slice_get l.addresses.items l.next ≡ Some a → (λ x. (put (comma l.some) x >>= item most a) >>= items_at most true (drop (l.next + 1) l.addresses.items)) ≡ items_left most l
unfolding items_at
items_are most l a h = ext (λ x. ap (λ d. items_at most l.some d x) (sym (first_at l.addresses.items l.next a h)))

pub items_stopped : (e : Needed) (most : ℕ) (l : Listing) (a : ℕ) (s t : Sheet) → slice_get l.addresses.items l.next ≡ Some a → Takes (Err e) (λ x. put (comma l.some) x >>= item most a) s t → Goes (Err e) (items_left most l) s (items_left most l) t
items_stopped e most l a s t h k = subst (λ f. Goes (Err e) f s f t) (items_are most l a h) (stopped_before e _ _ (items_at most true (drop (l.next + 1) l.addresses.items)) s t (stopped e (λ x. put (comma l.some) x >>= item most a) s t k))

pub items_more : (r : Result (Unit {0}) Needed) (most : ℕ) (l : Listing) (a : ℕ) (g : Sheet → Shown) (s t u : Sheet) → slice_get l.addresses.items l.next ≡ Some a → Moves (λ x. put (comma l.some) x >>= item most a) s (λ x. Has x) t → Goes r (items_at most true (drop (l.next + 1) l.addresses.items)) t g u → Goes r (items_left most l) s g u
items_more r most l a g s t u h m n = subst (λ f. Goes r f s g u) (items_are most l a h) (on_goes r _ (items_at most true (drop (l.next + 1) l.addresses.items)) g s t u (behind_it (λ x. put (comma l.some) x >>= item most a) _ s t m) n)

pub listing_stopped : (e : Needed) (most : ℕ) (l k : Listing) (s t : Sheet) → k.cut ≡ l.cut → Goes (Err e) (items_left most l) s (items_left most k) t → Goes (Err e) (list_left most (Some l)) s (list_left most (Some k)) t
unfolding list_left
listing_stopped e most l k s t c h = subst (λ b. Goes (Err e) (list_left most (Some l)) s (λ x. items_left most k x >>= put (end_text b)) t) (sym c) (stopped_before e (items_left most l) (items_left most k) (put (end_text l.cut)) s t h)

pub listing_ended : (r : Result (Unit {0}) Needed) (most : ℕ) (l : Listing) (b : Bool) (g : Sheet → Shown) (s t u : Sheet) → b ≡ l.cut → Moves (items_left most l) s (λ x. Has x) t → Leaves r u (put (end_text b) t) → Goes r (list_left most (Some l)) s g u
unfolding list_left
listing_ended r most l b g s t u c m h = on_goes r _ (put (end_text l.cut)) g s t u (behind_it (items_left most l) (put (end_text l.cut)) s t m) (put_goes r (end_text l.cut) g t u (subst (λ b. Leaves r u (put (end_text b) t)) c h))

pub no_list : (most : ℕ) (s : Sheet) → Moves (list_left most None) s (λ x. Has x) s
unfolding list_left
no_list most s = same _ _ s (λ x. refl)

-- Rows

pub row_stopped : (e : Needed) (c : Context) (some : Bool) (number : ℕ) (kinds : List Argument) (l k : Option Listing) (s t : Sheet) → Goes (Err e) (list_left c.most l) s (list_left c.most k) t → Goes (Err e) (λ x. list_left c.most l x >>= arguments c some number kinds) s (λ x. list_left c.most k x >>= arguments c some number kinds) t
row_stopped e c some number kinds l k s t h = stopped_before e (list_left c.most l) (list_left c.most k) (arguments c some number kinds) s t h

row_at_end : (c : Context) (some : Bool) (number : ℕ) (s : Sheet) → Moves (arguments c some number []) s (λ x. Has x) s
unfolding arguments
row_at_end c some number s = same _ _ s (λ x. ap (λ o. Has (sheet o x.left)) (append-nil x.out))

pub row_ended : (c : Context) (some : Bool) (number : ℕ) (kinds : List Argument) (l : Option Listing) (s t : Sheet) → kinds ≡ [] → Moves (list_left c.most l) s (λ x. Has x) t → Moves (λ x. list_left c.most l x >>= arguments c some number kinds) s (λ x. Has x) t
row_ended c some number kinds l s t e m = subst (λ ks. Moves (λ x. list_left c.most l x >>= arguments c some number ks) s (λ x. Has x) t) (sym e) (on _ (arguments c some number []) _ s t t (behind_it (list_left c.most l) (arguments c some number []) s t m) (row_at_end c some number t))

row_is : (c : Context) (some : Bool) (number : ℕ) (a : Argument) (more : List Argument) → (λ x. next_argument some a (place c number) x >>= arguments c true (number + 1) more) ≡ arguments c some number (a ∷ more)
unfolding arguments
row_is c some number a more = refl

begun_not : (e : Needed) (most : ℕ) (f : Sheet → Shown) (s t : Sheet) → Begins (Err e) most f s t → Takes (Err e) f s t
begun_not (Stops a n) most f s t h = h
begun_not Memory most f s t h = tt

-- the list before was the last that could be read
pub row_stopped_at : (e : Needed) (c : Context) (some : Bool) (number : ℕ) (a : Argument) (more : List Argument) (l : Option Listing) (s t u : Sheet) → Moves (list_left c.most l) s (λ x. Has x) t → Begins (Err e) c.most (next_argument some a (place c number)) t u → Goes (Err e) (λ x. list_left c.most l x >>= arguments c some number (a ∷ more)) s (λ x. list_left c.most None x >>= arguments c some number (a ∷ more)) u
unfolding list_left
row_stopped_at e c some number a more l s t u m h = on_goes (Err e) _ (arguments c some number (a ∷ more)) _ s t u (behind_it (list_left c.most l) (arguments c some number (a ∷ more)) s t m) (subst (λ f. Goes (Err e) f t f u) (row_is c some number a more) (stopped_before e _ _ (arguments c true (number + 1) more) t u (stopped e (next_argument some a (place c number)) t u (begun_not e c.most _ t u h))))

pub row_more : (r : Result (Unit {0}) Needed) (c : Context) (some : Bool) (number : ℕ) (a : Argument) (more : List Argument) (l k : Option Listing) (g : Sheet → Shown) (s t u v : Sheet) → Moves (list_left c.most l) s (λ x. Has x) t → Moves (next_argument some a (place c number)) t (list_left c.most k) u → Goes r (λ x. list_left c.most k x >>= arguments c true (number + 1) more) u g v → Goes r (λ x. list_left c.most l x >>= arguments c some number (a ∷ more)) s g v
row_more r c some number a more l k g s t u v m n h = on_goes r _ (arguments c some number (a ∷ more)) g s t v (behind_it (list_left c.most l) (arguments c some number (a ∷ more)) s t m) (subst (λ f. Goes r f t g v) (row_is c some number a more) (on_goes r _ (λ x. list_left c.most k x >>= arguments c true (number + 1) more) g t u v (with_rest (next_argument some a (place c number)) (list_left c.most k) (arguments c true (number + 1) more) t u n) h))

-- Halves

pub rest_stopped : (e : Needed) (c : Context) (p q : Row) (s t : Sheet) → q.comma ≡ p.comma → Goes (Err e) (row_left c p) s (row_left c q) t → Goes (Err e) (stage_left c (Under p)) s (stage_left c (Under q)) t
unfolding stage_left
rest_stopped e c p q s t k h = subst (λ b. Goes (Err e) (stage_left c (Under p)) s (λ x. row_left c q x >>= put (behind b)) t) (sym k) (stopped_before e (row_left c p) (row_left c q) (put (behind p.comma)) s t h)

pub rest_ended : (r : Result (Unit {0}) Needed) (c : Context) (p : Row) (b : Bool) (g : Sheet → Shown) (s t u : Sheet) → b ≡ p.comma → Moves (row_left c p) s (λ x. Has x) t → Leaves r u (put (behind b) t) → Goes r (stage_left c (Under p)) s g u
unfolding stage_left
rest_ended r c p b g s t u k m h = on_goes r _ (put (behind p.comma)) g s t u (behind_it (row_left c p) (put (behind p.comma)) s t m) (put_goes r (behind p.comma) g t u (subst (λ b. Leaves r u (put (behind b) t)) k h))
