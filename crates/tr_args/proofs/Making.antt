-- What is made of a half, as reads come.
use Rattle.std.proofs.Common.{ℕ, ◌≡◌, ◌∙◌, ◌+◌, ◌-◌, ◌<◌, ◌≤◌, ◌^◌, false, List, [], ◌∷◌, ◌++◌, length, take, drop, Option, Some, None, refl, sym, ap, subst, append_assoc, arith, string_bytes, length-append}
use Rattle.std.specs.declared.alloc.Global.{Global}
use Rattle.std.specs.Prelude.{String, IsSome}
use Rattle.std.specs.Option.{option_to_list}
use Rattle.std.proofs.lemmas.List.{take-append-drop, take-append-le, same_from_push}
use Rattle.std.proofs.Math.Seq.{take-append_seam}
use Rattle.tr_args.specs.declared.context.Context.{Context}
use Rattle.tr_args.specs.declared.progress.Row.{Row}
use Rattle.tr_args.specs.declared.progress.Made.{Made}
use Rattle.tr_args.specs.declared.progress.Stage.{Stage}
use Rattle.tr_args.specs.declared.progress.Stage.TheVariants.{Unbegun, Under, Whole}
use Rattle.tr_values.specs.Sheets.{Sheet, Shown, Has, Wants}
use Rattle.tr_args.specs.Arguments.{half, half_by, wish_of, text_of}
use Rattle.tr_args.specs.Progress.{sheet, stage_left, numbered, is_left, is_wanted, Moves, IsMade, Makes}
use Rattle.tr_args.proofs.Moving.{on}

fits : (count : ℕ) (f t s : List (List ℕ)) → s ≡ f ++ t → length s ≤ count → length t ≤ count
fits count f t s e l = let k : length s ≡ length f + length t = ap length e ∙ length-append f t in omega arith

-- no more reads are left than there were
pub fewer : (count : ℕ) (f g : Sheet → Shown) (s t : Sheet) → Moves f s g t → length s.left ≤ count → length t.left ≤ count
fewer count f g s t m l = fits count m.front t.left s.left m.rest l

rest_of : (count u : ℕ) (t : List (List ℕ)) → u ≡ count - length t → length t ≤ count → u + length t ≡ count
rest_of count u t e l = rw e (omega arith)

pub made_whole : (c : Context) (f : Sheet → Shown) (s t : Sheet) (count used : ℕ) (text : String Global) → string_bytes text ≡ t.out → used ≡ count - length t.left → length s.left ≤ count → Moves f s (λ x. Has x) t → Makes c f s count (record { text = text; used = used; stage = Whole }) None
unfolding stage_left
made_whole c f s t count used text o u l w = record {
  left = t.left;
  moves = subst (λ o. Moves f s (λ x. Has x) (sheet o t.left)) (sym o) w;
  used = rest_of count used t.left u (fewer count f (λ x. Has x) s t w l);
  few = omega arith;
  next = refl;
  whole = refl;
}

pub made_under : (c : Context) (f : Sheet → Shown) (s t : Sheet) (count used : ℕ) (text : String Global) (row : Row) (a n : ℕ) → string_bytes text ≡ t.out → used ≡ count - length t.left → length s.left ≤ count → row.number + length row.kinds.now < 2 ^ 32 → Moves f s (stage_left c (Under row)) t → stage_left c (Under row) t ≡ Wants a n → Makes c f s count (record { text = text; used = used; stage = Under row }) (Some (a, n))
made_under c f s t count used text row a n o u l k w e = record {
  left = t.left;
  moves = subst (λ o. Moves f s (stage_left c (Under row)) (sheet o t.left)) (sym o) w;
  used = rest_of count used t.left u (fewer count f (stage_left c (Under row)) s t w l);
  few = k;
  next = sym (ap wish_of (ap (λ o. stage_left c (Under row) (sheet o t.left)) o ∙ e));
  whole = refl;
}

-- Of a half's reads

taken : (k : ℕ) (xs ys : List (List ℕ)) → k + length ys ≡ length (xs ++ ys) → take k (xs ++ ys) ≡ xs
taken k xs ys e =
    let l : length (xs ++ ys) ≡ length xs + length ys = length-append xs ys in
    let here : k ≡ length xs = omega arith in
    ap (λ n. take n (xs ++ ys)) here ∙ take-append_seam xs ys

within_by : (u l n : ℕ) → u + l ≡ n → u ≤ n
within_by u l n e = omega arith

-- with the reads before, and those that were taken since
pub record Continues (c : Context) (got : List (List ℕ)) (m : Made) (wish : Option (ℕ × ℕ)) : Type 0 where
  pub made : IsMade c got m
  pub next : wish ≡ wish_of (half c got)
  pub whole : is_wanted wish ≡ is_left m.stage

pub continues : (c : Context) (f : Sheet → Shown) (out : List ℕ) (before left got : List (List ℕ)) (m : Made) (wish : Option (ℕ × ℕ)) → got ≡ before ++ left → ((more : List (List ℕ)) → half c (before ++ more) ≡ f (sheet out more)) → Makes c f (sheet out left) (length got) m wish → Continues c got m wish
continues c f out before left got m wish e h k =
    let front = k.moves.front in
    let whole : got ≡ (before ++ front) ++ k.left = e ∙ ap (λ l. before ++ l) k.moves.rest ∙ sym (append_assoc before front k.left) in
    let count : m.used + length k.left ≡ length ((before ++ front) ++ k.left) = k.used ∙ ap length whole in
    let start : take m.used got ≡ before ++ front = ap (λ g. take m.used g) whole ∙ taken m.used (before ++ front) k.left count in
    let goes : (more : List (List ℕ)) → half c (take m.used got ++ more) ≡ stage_left c m.stage (sheet (string_bytes m.text) more) = λ more. ap (λ l. half c (l ++ more)) start ∙ ap (λ l. half c l) (append_assoc before front more) ∙ h (front ++ more) ∙ k.moves.goes more in
    let now : half c got ≡ stage_left c m.stage (sheet (string_bytes m.text) k.left) = ap (λ g. half c g) (whole ∙ ap (λ l. l ++ k.left) (sym start)) ∙ goes k.left in
    record {
      made = record { within = within_by m.used (length k.left) (length got) k.used; few = k.few; goes = goes };
      next = k.next ∙ ap wish_of (sym now);
      whole = k.whole;
    }

-- a text that is under way
pub continued : (c : Context) (got : List (List ℕ)) (o m : Made) (wish : Option (ℕ × ℕ)) → IsMade c got o → Makes c (stage_left c o.stage) (sheet (string_bytes o.text) (drop o.used got)) (length got) m wish → Continues c got m wish
continued c got o m wish h k = continues c (stage_left c o.stage) (string_bytes o.text) (take o.used got) (drop o.used got) got m wish (sym (take-append-drop o.used got)) h.goes k

-- a text from its first byte
pub begins : (c : Context) (got : List (List ℕ)) (row : Row) (t : Sheet) (m : Made) (wish : Option (ℕ × ℕ)) → Moves (half_by c.result c) (sheet [] got) (stage_left c (Under row)) t → Makes c (stage_left c (Under row)) t (length got) m wish → Continues c got m wish
unfolding half
begins c got row t m wish w k = continues c (half_by c.result c) [] [] got got m wish refl (λ more. refl) (record {
  left = k.left;
  moves = on (half_by c.result c) (stage_left c (Under row)) (stage_left c m.stage) (sheet [] got) t (sheet (string_bytes m.text) k.left) w k.moves;
  used = k.used;
  few = k.few;
  next = k.next;
  whole = k.whole;
})

-- with one read more
pub made_later : (c : Context) (got : List (List ℕ)) (bytes : List ℕ) (m : Made) → IsMade c got m → IsMade c (got ++ bytes ∷ []) m
made_later c got bytes m h = record {
  within = let l : length (got ++ bytes ∷ []) ≡ length got + 1 = length-append got (bytes ∷ []) in let w = h.within in omega arith;
  few = h.few;
  goes = λ more. ap (λ g. half c (g ++ more)) (take-append-le m.used got (bytes ∷ []) h.within) ∙ h.goes more;
}

-- nothing yet
pub made_of_none : (c : Context) (got : List (List ℕ)) (m : Made) → string_bytes m.text ≡ [] → m.used ≡ 0 → m.stage ≡ Unbegun → IsMade c got m
unfolding half stage_left
made_of_none c got m t u s = record {
  within = rw u (omega arith);
  few = rw s omega arith;
  goes = λ more. rw (u, s, t) refl;
}

-- what is made of a text under way, and what is read next
pub under : (c : Context) (got : List (List ℕ)) (o : Made) (row : Row) (s : Sheet) (m : Made) (wish : Option (ℕ × ℕ)) → o.stage ≡ Under row → s ≡ sheet (string_bytes o.text) (drop o.used got) → IsMade c got o → Makes c (stage_left c (Under row)) s (length got) m wish → Continues c got m wish
under c got o row s m wish e f h k = continued c got o m wish h (subst (λ x. Makes c (stage_left c x) (sheet (string_bytes o.text) (drop o.used got)) (length got) m wish) (sym e) (subst (λ x. Makes c (stage_left c (Under row)) x (length got) m wish) f k))

whole_at : (c : Context) (got : List (List ℕ)) (text : List ℕ) (used : ℕ) (stage : Stage) → stage ≡ Whole → ((more : List (List ℕ)) → half c (take used got ++ more) ≡ stage_left c stage (sheet text more)) → (more : List (List ℕ)) → half c (take used got ++ more) ≡ Has (sheet text more)
unfolding stage_left
whole_at c got text used stage e h = subst (λ x. (more : List (List ℕ)) → half c (take used got ++ more) ≡ stage_left c x (sheet text more)) e h

pub stays_whole : (c : Context) (got : List (List ℕ)) (o : Made) → o.stage ≡ Whole → IsMade c got o → None ≡ wish_of (half c got)
stays_whole c got o e h = ap wish_of (sym (ap (λ g. half c g) (sym (take-append-drop o.used got)) ∙ whole_at c got (string_bytes o.text) o.used o.stage e h.goes (drop o.used got)))

-- What a decoder keeps

abbrev pub Kept : Context → List (List ℕ) → Option (ℕ × ℕ) → Made → Type 0
Kept c got wish m = (c.most ≤ 4096) × (wish ≡ wish_of (half c got)) × (is_wanted wish ≡ is_left m.stage) × (m.used ≤ length got) × (numbered m.stage < 2 ^ 32) × ((more : List (List ℕ)) → half c (take m.used got ++ more) ≡ stage_left c m.stage (sheet (string_bytes m.text) more))

is_made : (c : Context) (got : List (List ℕ)) (wish : Option (ℕ × ℕ)) (m : Made) → Kept c got wish m → IsMade c got m
is_made c got wish m k = record { within = k.3; few = k.4; goes = k.5 }

left_whole : (stage : Stage) → is_left stage ≡ false → stage ≡ Whole
left_whole Unbegun e = cc
left_whole (Under row) e = cc
left_whole Whole e = refl

whole_of : (wish : Option (ℕ × ℕ)) (stage : Stage) → wish ≡ None → is_wanted wish ≡ is_left stage → stage ≡ Whole
whole_of wish stage e k = left_whole stage (sym k ∙ ap is_wanted e)

pub kept_whole : (c : Context) (got new : List (List ℕ)) (bytes : List ℕ) (wish : Option (ℕ × ℕ)) (m : Made) → new ≡ got ++ bytes ∷ [] → wish ≡ None → Kept c got wish m → Kept c new wish m
kept_whole c got new bytes wish m e n k =
    let later : IsMade c (got ++ bytes ∷ []) m = made_later c got bytes m (is_made c got wish m k) in
    subst (λ g. Kept c g wish m) (sym e) (k.0, n ∙ stays_whole c (got ++ bytes ∷ []) m (whole_of wish m.stage n k.2) later, k.2, later.within, later.few, later.goes)

pub kept_anew : (c : Context) (got new : List (List ℕ)) (w : ℕ × ℕ) (wish : Option (ℕ × ℕ)) (o m : Made) → new ≡ got → wish ≡ Some w → string_bytes m.text ≡ [] → m.used ≡ 0 → m.stage ≡ Unbegun → Kept c got wish o → Kept c new wish m
kept_anew c got new w wish o m e n t u s k =
    let made : IsMade c got m = made_of_none c got m t u s in
    subst (λ g. Kept c g wish m) (sym e) (k.0, k.1, ap is_wanted n ∙ sym (ap is_left s), made.within, made.few, made.goes)

pub made_text : (c : Context) (got : List (List ℕ)) (wish : Option (ℕ × ℕ)) (m : Made) → wish ≡ None → is_wanted wish ≡ is_left m.stage → IsMade c got m → string_bytes m.text ≡ text_of (half c got)
made_text c got wish m n k h = sym (ap text_of (ap (λ g. half c g) (sym (take-append-drop m.used got)) ∙ whole_at c got (string_bytes m.text) m.used m.stage (whole_of wish m.stage n k) h.goes (drop m.used got)))

pub kept_text : (c : Context) (got : List (List ℕ)) (wish : Option (ℕ × ℕ)) (m : Made) → wish ≡ None → Kept c got wish m → string_bytes m.text ≡ text_of (half c got)
kept_text c got wish m n k = made_text c got wish m n k.2 (is_made c got wish m k)

-- what was pushed is popped
pub popped : (r : Option (List ℕ)) (got new : List (List ℕ)) (bytes : List ℕ) → got ++ bytes ∷ [] ≡ new ++ option_to_list r → IsSome r → new ≡ got
popped None got new bytes e h = cc
popped (Some b) got new bytes e h = sym (same_from_push got new bytes b e).0
