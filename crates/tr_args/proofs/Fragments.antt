-- A text under way is what stands before it and what is made of the next reads, whatever is read later.
use Rattle.std.proofs.Common.{ℕ, ◌≡◌, ◌∙◌, Bool, true, false, if◌then◌else◌, List, [], ◌∷◌, ◌++◌, refl, sym, ap, append_assoc, append-nil}
use Rattle.tr_values.specs.Sheets.{Sheet, Shown, Has, Wants, put, reads, reads_from, ◌>>=◌}
use Rattle.tr_args.specs.Progress.{sheet}

-- a text and the reads that it was made of
pub record Fragment (f : Sheet → Shown) (s t : Sheet) : Type 0 where
  pub front : List (List ℕ)
  pub text : List ℕ
  pub rest : s.left ≡ front ++ t.left
  pub out : t.out ≡ s.out ++ text
  pub goes : (before : List ℕ) (more : List (List ℕ)) → f (sheet before (front ++ more)) ≡ Has (sheet (before ++ text) more)

abbrev pub Frame : (Sheet → Shown) → Sheet → Shown → Type 0
Frame f s (Has t) = Fragment f s t
Frame f s (Wants address n) = (before : List ℕ) → f (sheet before s.left) ≡ Wants address n

abbrev pub Framed : (Sheet → Shown) → Type 0
Framed f = (s : Sheet) → Frame f s (f s)

pub put_f : (text : List ℕ) → Framed (put text)
put_f text s = record { front = []; text = text; rest = refl; out = refl; goes = λ before more. refl }

pub has_f : Framed (λ s. Has s)
has_f s = record { front = []; text = []; rest = refl; out = sym (append-nil s.out); goes = λ before more. ap (λ o. Has (sheet o more)) (sym (append-nil before)) }

joined_at : (f g : Sheet → Shown) (s t : Sheet) (shown : Shown) → Fragment f s t → Frame g t shown → Frame (λ s. f s >>= g) s shown
joined_at f g s t (Wants address n) h w = λ before. rw (h.rest, h.goes before t.left) (w (before ++ h.text))
joined_at f g s t (Has u) h w = record {
  front = h.front ++ w.front;
  text = h.text ++ w.text;
  rest = h.rest ∙ ap (λ l. h.front ++ l) w.rest ∙ sym (append_assoc h.front w.front u.left);
  out = w.out ∙ ap (λ o. o ++ w.text) h.out ∙ append_assoc s.out h.text w.text;
  goes = λ before more. ap (λ l. f (sheet before l) >>= g) (append_assoc h.front w.front more) ∙ ap (λ x. x >>= g) (h.goes before (w.front ++ more)) ∙ w.goes (before ++ h.text) more ∙ ap (λ o. Has (sheet o more)) (append_assoc before h.text w.text);
}

after_at : (f g : Sheet → Shown) (s : Sheet) (shown : Shown) → Frame f s shown → Framed g → Frame (λ s. f s >>= g) s (shown >>= g)
after_at f g s (Wants address n) h w = λ before. ap (λ x. x >>= g) (h before)
after_at f g s (Has t) h w = joined_at f g s t (g t) h (w t)

-- one after the other
pub after_f : (f g : Sheet → Shown) → Framed f → Framed g → Framed (λ s. f s >>= g)
after_f f g h w s = after_at f g s (f s) (h s) w

pub either_f : (b : Bool) (f g : Sheet → Shown) → Framed f → Framed g → Framed (λ s. if b then f s else g s)
either_f true f g h w = h
either_f false f g h w = w

read_at : (address n : ℕ) (f : List ℕ → Sheet → Shown) (out bs : List ℕ) (left : List (List ℕ)) (shown : Shown) → Frame (f bs) (sheet out left) shown → Frame (reads address n f) (sheet out (bs ∷ left)) shown
read_at address n f out bs left (Wants a m) h = h
read_at address n f out bs left (Has t) h = record { front = bs ∷ h.front; text = h.text; rest = ap (λ l. bs ∷ l) h.rest; out = h.out; goes = h.goes }

reads_at : (address n : ℕ) (f : List ℕ → Sheet → Shown) → ((bs : List ℕ) → Framed (f bs)) → (out : List ℕ) (left : List (List ℕ)) → Frame (reads address n f) (sheet out left) (reads_from address n f out left)
reads_at address n f h out [] = λ before. refl
reads_at address n f h out (bs ∷ left) = read_at address n f out bs left (f bs (sheet out left)) (h bs (sheet out left))

-- a read, and what is made of it
pub reads_f : (address n : ℕ) (f : List ℕ → Sheet → Shown) → ((bs : List ℕ) → Framed (f bs)) → Framed (reads address n f)
reads_f address n f h s = reads_at address n f h s.out s.left
