-- Reads that are taken, one part of a text after another.
use Rattle.std.proofs.Common.{ℕ, ◌≡◌, ◌∙◌, Bool, true, false, List, [], ◌++◌, Result, Ok, Err, refl, sym, ap, subst, append_assoc}
use Rattle.tr_values.specs.declared.sheet.Needed.{Needed}
use Rattle.tr_values.specs.declared.sheet.Needed.TheVariants.{Wants as Stops, Memory}
use Rattle.tr_values.specs.Sheets.{Sheet, Shown, Has, Wants, put, Leaves, ◌>>=◌}
use Rattle.tr_args.specs.Progress.{sheet, Moves, Takes, Goes}
use Rattle.tr_args.proofs.Fragments.{Fragment, Frame, Framed}

abbrev out_of : Shown → List ℕ
out_of (Has s) = s.out
out_of (Wants a n) = []

abbrev left_of : Shown → List (List ℕ)
left_of (Has s) = s.left
left_of (Wants a n) = []

abbrev is_has : Shown → Bool
is_has (Has s) = true
is_has (Wants a n) = false

-- what is shown isn't wanted
pub has_wants : {s : Sheet} {a n : ℕ} → Has s ≡ Wants a n → ⊥
has_wants h = let e : true ≡ false = ap is_has h in cc

abbrev sheet_of : Sheet → Shown → Sheet
sheet_of s (Has t) = t
sheet_of s (Wants a n) = s

in_place : (f : Sheet → Shown) (s part : Sheet) → Fragment f (sheet [] s.left) part → Fragment f s (sheet (s.out ++ part.out) part.left)
in_place f s part h = record { front = h.front; text = h.text; rest = h.rest; out = ap (λ o. s.out ++ o) h.out; goes = h.goes }

stopped_at : (f : Sheet → Shown) (s : Sheet) (shown : Shown) (a n : ℕ) → shown ≡ Wants a n → Frame f (sheet [] s.left) shown → f s ≡ Wants a n
stopped_at f s shown a n e w = (subst (λ x. Frame f (sheet [] s.left) x) e w) s.out

pub same : (f g : Sheet → Shown) (s : Sheet) → ((x : Sheet) → f x ≡ g x) → Moves f s g s
same f g s h = record { front = []; rest = refl; goes = λ more. h (sheet s.out more) }

pub behind_it : (f g : Sheet → Shown) (s t : Sheet) → Moves f s (λ x. Has x) t → Moves (λ x. f x >>= g) s g t
behind_it f g s t m = record { front = m.front; rest = m.rest; goes = λ more. ap (λ x. x >>= g) (m.goes more) }

pub with_rest : (f f' g : Sheet → Shown) (s t : Sheet) → Moves f s f' t → Moves (λ x. f x >>= g) s (λ x. f' x >>= g) t
with_rest f f' g s t m = record { front = m.front; rest = m.rest; goes = λ more. ap (λ x. x >>= g) (m.goes more) }

pub on : (f g h : Sheet → Shown) (s t u : Sheet) → Moves f s g t → Moves g t h u → Moves f s h u
on f g h s t u m n = record {
  front = m.front ++ n.front;
  rest = m.rest ∙ ap (λ l. m.front ++ l) n.rest ∙ sym (append_assoc m.front n.front u.left);
  goes = λ more. ap (λ l. f (sheet s.out l)) (append_assoc m.front n.front more) ∙ m.goes (n.front ++ more) ∙ n.goes more;
}

pub of_fragment : (f : Sheet → Shown) (s t : Sheet) → Fragment f s t → Moves f s (λ x. Has x) t
of_fragment f s t m = record { front = m.front; rest = m.rest; goes = λ more. m.goes s.out more ∙ ap (λ o. Has (sheet o more)) (sym m.out) }

-- A function that isn't all shown

pub on_goes : (r : Result (Unit {0}) Needed) (f g h : Sheet → Shown) (s t u : Sheet) → Moves f s g t → Goes r g t h u → Goes r f s h u
on_goes (Ok x) f g h s t u m n = on f g (λ x. Has x) s t u m n
on_goes (Err (Stops a n)) f g h s t u m k = (on f g h s t u m k.0, k.1)
on_goes (Err Memory) f g h s t u m n = tt

-- nothing of it is shown
pub stopped : (e : Needed) (f : Sheet → Shown) (s t : Sheet) → Takes (Err e) f s t → Goes (Err e) f s f t
stopped (Stops a n) f s t h = (rw h.1 (same f f s (λ x. refl)), ap f h.1 ∙ h.0)
stopped Memory f s t h = tt

pub stopped_before : (e : Needed) (f f' g : Sheet → Shown) (s t : Sheet) → Goes (Err e) f s f' t → Goes (Err e) (λ x. f x >>= g) s (λ x. f' x >>= g) t
stopped_before (Stops a n) f f' g s t h = (with_rest f f' g s t h.0, ap (λ x. x >>= g) h.1)
stopped_before Memory f f' g s t h = tt

-- what is put is all shown
pub put_goes : (r : Result (Unit {0}) Needed) (text : List ℕ) (g : Sheet → Shown) (s t : Sheet) → Leaves r t (put text s) → Goes r (put text) s g t
put_goes (Ok x) text g s t h = record { front = []; rest = ap left_of h; goes = λ more. ap (λ o. Has (sheet o more)) (ap out_of h) }
put_goes (Err (Stops a n)) text g s t h = absurd (has_wants h)
put_goes (Err Memory) text g s t h = tt

-- A part on a sheet of its own

pub part_stopped : (e : Needed) (f : Sheet → Shown) (s part : Sheet) → Framed f → Leaves (Err e) part (f (sheet [] s.left)) → Takes (Err e) f s s
part_stopped (Stops a n) f s part w h = (stopped_at f s (f (sheet [] s.left)) a n h (w (sheet [] s.left)), refl)
part_stopped Memory f s part w h = tt

pub part_taken : (r : Result (Unit {0}) Needed) (f : Sheet → Shown) (s part t : Sheet) → Framed f → f (sheet [] s.left) ≡ Has part → Leaves r t (put part.out (sheet s.out part.left)) → Takes r f s t
part_taken (Ok x) f s part t w h k = subst (λ x. Moves f s (λ y. Has y) x) (ap (sheet_of t) k) (of_fragment f s (sheet (s.out ++ part.out) part.left) (in_place f s part (subst (λ x. Frame f (sheet [] s.left) x) h (w (sheet [] s.left)))))
part_taken (Err (Stops a n)) f s part t w h k = absurd (has_wants k)
part_taken (Err Memory) f s part t w h k = tt
