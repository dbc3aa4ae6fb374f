-- The index of labels as one is added.
use Rattle.std.proofs.Common.{map, ◌≡◌, ◌≢◌, ◌⊎◌, inl, inr, ℕ, ◌+◌, ◌<◌, List, [], ◌∷◌, ◌++◌, length, Bool, true, false, cond, Option, Some, None, refl, sym, ap, subst, ◌∙◌, arith, get_or, length-append}
use Rattle.std.specs.Prelude.{is_some, slice_get, if◌then◌else◌}
use Rattle.std.specs.Option.{option_or, option_and_then}
use Rattle.std.specs.Ordering.{is_eq, nat_cmp}
use Rattle.std.specs.Cmp.Lexicographic.{slice_cmp, bytes_decides}
use Rattle.std.specs.declared.cmp.Ordering.{Ordering}
use Rattle.std.specs.declared.cmp.Ordering.TheVariants.{Less, Equal, Greater}
use Rattle.std.specs.Map.{lookup}
use Rattle.std.specs.BTreeMap.{BTreeMap, is_at, insert_entry}
use Rattle.std.specs.FinMap as maps
use Rattle.std.proofs.lemmas.Map.Text.{is_eq-slice_cmp}
use Rattle.std.proofs.lemmas.Option.{slice_get-get_or}
use Rattle.std.proofs.Math.ListN.{get_or-map}
use Rattle.std.proofs.lemmas.List.{get_or_append_left, length-map}
use Rattle.std.proofs.Math.Seq.{get_or-append_seam}
use Rattle.rv_asm.specs.Codes.{Location, place_named}
use Rattle.rv_asm.specs.Labels.{number_of, IsIndex}
use Rattle.rv_syntax.specs.Text.{is_text}

-- ---- names

abbrev name_cmp : List ℕ → List ℕ → Ordering
name_cmp = slice_cmp nat_cmp

name_cmp-IsAntisymmetric : maps.IsAntisymmetric name_cmp
name_cmp-IsAntisymmetric = maps.slice_cmp-IsAntisymmetric maps.nat_cmp-IsAntisymmetric

pub text_tells : (a b : List ℕ) → ((is_text a b ≡ true) × (a ≡ b)) ⊎ ((is_text a b ≡ false) × (a ≢ b))
text_tells a b = go (is_text a b) refl
  where
    go : (t : Bool) → is_text a b ≡ t → ((is_text a b ≡ true) × (a ≡ b)) ⊎ ((is_text a b ≡ false) × (a ≢ b))
    go true e = inl (e, (bytes_decides a b).0 e)
    go false e = inr (e, λ s. let never : false ≡ true = sym e ∙ (bytes_decides a b).1 s in cc never)

same_name : (a b : List ℕ) → is_eq (name_cmp a b) ≡ true → a ≡ b
same_name a b e = (bytes_decides a b).0 (sym (is_eq-slice_cmp a b) ∙ e)

own_name : (a b : List ℕ) → a ≡ b → is_eq (name_cmp a b) ≡ true
own_name a b e = is_eq-slice_cmp a b ∙ (bytes_decides a b).1 e

other_name : (a b : List ℕ) → a ≢ b → is_eq (name_cmp a b) ≡ false
other_name a b n = go (is_eq (name_cmp a b)) refl
  where
    go : (t : Bool) → is_eq (name_cmp a b) ≡ t → is_eq (name_cmp a b) ≡ false
    go true e = absurd (n (same_name a b e))
    go false e = e

-- ---- numbers

kept : (o p : Option ℕ) → is_some o ≡ true → o ≡ option_or o p
kept None p e = absurd (let never : false ≡ true = e in cc never)
kept (Some n) p e = refl

or_none : (o : Option ℕ) → o ≡ option_or o None
or_none None = refl
or_none (Some n) = refl

nothing : (o : Option ℕ) → is_some o ≡ false → o ≡ None
nothing None e = refl
nothing (Some n) e = absurd (let never : true ≡ false = e in cc never)

module _ {K : Type 0} (text : K → List ℕ) where
  abbrev found : List (K × ℕ) → List ℕ → Option ℕ
  found es w = lookup (is_at (λ k. name_cmp w (text k))) es

  abbrev put_in : List (K × ℕ) → K → ℕ → List (K × ℕ)
  put_in = insert_entry (λ a b. name_cmp (text a) (text b))

  apart : (q k e : List ℕ) → name_cmp k e ≡ Greater → (a b : Bool) → is_eq (name_cmp q k) ≡ a → is_eq (name_cmp q e) ≡ b → (v w o : Option ℕ) → cond b w (cond a v o) ≡ cond a v (cond b w o)
  apart q k e g true true ha hb v w o =
      let equal : is_eq (name_cmp k e) ≡ true = subst (λ z. is_eq (name_cmp z e) ≡ true) (same_name q k ha) hb in
      let impossible : is_eq Greater ≡ true = ap is_eq (sym g) ∙ equal in
      absurd (cc impossible)
  apart q k e g true false ha hb v w o = refl
  apart q k e g false true ha hb v w o = refl
  apart q k e g false false ha hb v w o = refl

  twice : (b : Bool) (v w o : Option ℕ) → cond b v o ≡ cond b v (cond b w o)
  twice true v w o = refl
  twice false v w o = refl

  found-put_in : (q : List ℕ) (es : List (K × ℕ)) (k : K) (n : ℕ) → found (put_in es k n) q ≡ cond (is_eq (name_cmp q (text k))) (Some n) (found es q)
  found-put_in q [] k n = refl
  found-put_in q (e ∷ es) k n = go (name_cmp (text k) (text e.0)) refl (found-put_in q es k n)
    where
      go : (o : Ordering) → name_cmp (text k) (text e.0) ≡ o → found (put_in es k n) q ≡ cond (is_eq (name_cmp q (text k))) (Some n) (found es q) → found (put_in (e ∷ es) k n) q ≡ cond (is_eq (name_cmp q (text k))) (Some n) (found (e ∷ es) q)
      go Less h again = rw h refl
      go Equal h again = rw (h, name_cmp-IsAntisymmetric (text k) (text e.0) h) (twice (is_eq (name_cmp q (text e.0))) (Some n) (Some e.1) (found es q))
      go Greater h again = rw (h, again) (apart q (text k) (text e.0) h (is_eq (name_cmp q (text k))) (is_eq (name_cmp q (text e.0))) refl refl (Some n) (Some e.1) (found es q))

  -- a name that has a number keeps it
  pub numbered_before : (t : BTreeMap K ℕ) (name : List ℕ) (n : ℕ) → is_some (number_of text t name) ≡ true → (w : List ℕ) → number_of text t w ≡ option_or (number_of text t w) (if is_text name w then Some n else None)
  numbered_before t name n there w =
      elim (text_tells name w) [
        | inl e ↦ rw e.0 (kept (number_of text t w) (Some n) (ap (λ v. is_some (number_of text t v)) (sym e.1) ∙ there))
        | inr e ↦ rw e.0 (or_none (number_of text t w))
      ]

  -- a name that has none gets one
  pub numbered_now : (t u : BTreeMap K ℕ) (k : K) (name : List ℕ) (n : ℕ) → is_some (number_of text t name) ≡ false → text k ≡ name → u.entries ≡ put_in t.entries k n
      → (w : List ℕ) → number_of text u w ≡ option_or (number_of text t w) (if is_text name w then Some n else None)
  numbered_now t u k name n absent key put w =
      let after : number_of text u w ≡ cond (is_eq (name_cmp w name)) (Some n) (number_of text t w) =
      ap (λ es. found es w) put ∙ found-put_in w t.entries k n ∙ ap (λ z. cond (is_eq (name_cmp w z)) (Some n) (number_of text t w)) key in
      elim (text_tells name w) [
        | inl e ↦
            let none : number_of text t w ≡ None = ap (number_of text t) (sym e.1) ∙ nothing (number_of text t name) absent in
            rw (e.0, none) (after ∙ ap (λ b. cond b (Some n) (number_of text t w)) (own_name w name (sym e.1)))
        | inr e ↦ rw e.0 (after ∙ ap (λ b. cond b (Some n) (number_of text t w)) (other_name w name (λ s. e.1 (sym s))) ∙ or_none (number_of text t w))
      ]

-- ---- labels

step : (b : Bool) (q : Location) (x y r : Option Location) → x ≡ option_or y r → (if b then Some q else x) ≡ option_or (if b then Some q else y) r
step true q x y r e = refl
step false q x y r e = e

pub place_named-append : (ps : List Location) (p : Location) (w : List ℕ) → place_named (ps ++ p ∷ []) w ≡ option_or (place_named ps w) (if is_text p.name w then Some p else None)
place_named-append [] p w = refl
place_named-append (q ∷ ps) p w = step (is_text q.name w) q (place_named (ps ++ p ∷ []) w) (place_named ps w) (if is_text p.name w then Some p else None) (place_named-append ps p w)

longer : (ps : List Location) (p : Location) → length (ps ++ p ∷ []) ≡ length ps + 1
longer ps p = length-append ps (p ∷ [])

within_by : (ps : List Location) (p : Location) (o : Option ℕ) (b : Bool) (i : ℕ) → ((j : ℕ) → o ≡ Some j → j < length ps) → option_or o (if b then Some (length ps) else None) ≡ Some i → i < length (ps ++ p ∷ [])
within_by ps p (Some j) b i h e = let same : j ≡ i = (let f : Some j ≡ Some i = e in cc f) in omega (arith, same, h j refl, longer ps p)
within_by ps p None true i h e = let same : length ps ≡ i = (let f : Some (length ps) ≡ Some i = e in cc f) in omega (arith, same, longer ps p)
within_by ps p None false i h e = absurd (let never : None ≡ Some i = e in cc never)

named_by : (ps : List Location) (p : Location) (o : Option ℕ) (b : Bool) (f : Option Location) → ((j : ℕ) → o ≡ Some j → j < length ps) → option_and_then (slice_get ps) o ≡ f
    → option_and_then (slice_get (ps ++ p ∷ [])) (option_or o (if b then Some (length ps) else None)) ≡ option_or f (if b then Some p else None)
named_by ps p (Some j) b f h e =
    let lt : j < length ps = h j refl in
    slice_get-get_or (ps ++ p ∷ []) j p (omega (arith, lt, longer ps p)) ∙ ap (λ (x : Location). Some x) (get_or_append_left ps (p ∷ []) p j lt)
    ∙ ap (λ (g : Option Location). option_or g (if b then Some p else None)) (sym (slice_get-get_or ps j p lt) ∙ e)
named_by ps p None true f h e =
    slice_get-get_or (ps ++ p ∷ []) (length ps) p (omega (arith, longer ps p)) ∙ ap (λ (x : Location). Some x) (get_or-append_seam ps p [] p)
    ∙ ap (λ (g : Option Location). option_or g (Some p)) e
named_by ps p None false f h e = ap (λ (g : Option Location). option_or g None) e

-- ---- the index

pub IsIndex-none : {K : Type 0} (text : K → List ℕ) (t : BTreeMap K ℕ) → t.entries ≡ [] → IsIndex text t []
IsIndex-none text t empty =
    let none : (w : List ℕ) → number_of text t w ≡ None = λ w. ap (λ es. found text es w) empty in
    record {
      within = λ w i e. absurd (let never : None ≡ Some i = sym (none w) ∙ e in cc never);
      named = λ w. ap (option_and_then (slice_get {X = Location} [])) (none w);
    }

pub IsIndex-same : {K : Type 0} (text : K → List ℕ) (t u : BTreeMap K ℕ) (ps : List Location) → u.entries ≡ t.entries → IsIndex text t ps → IsIndex text u ps
IsIndex-same text t u ps same index = record {
  within = λ w i e. index.within w i (ap (λ es. found text es w) (sym same) ∙ e);
  named = λ w. ap (λ es. option_and_then (slice_get ps) (found text es w)) same ∙ index.named w;
}

pub IsIndex-push : {K : Type 0} (text : K → List ℕ) (t u : BTreeMap K ℕ) (ps : List Location) (p : Location) → IsIndex text t ps
    → ((w : List ℕ) → number_of text u w ≡ option_or (number_of text t w) (if is_text p.name w then Some (length ps) else None)) → IsIndex text u (ps ++ p ∷ [])
IsIndex-push text t u ps p index added = record {
  within = λ w i e. within_by ps p (number_of text t w) (is_text p.name w) i (index.within w) (sym (added w) ∙ e);
  named = λ w. ap (option_and_then (slice_get (ps ++ p ∷ []))) (added w)
      ∙ named_by ps p (number_of text t w) (is_text p.name w) (place_named ps w) (index.within w) (index.named w) ∙ sym (place_named-append ps p w);
}

-- ---- the label of a number

pub number_within : {A : Type 0} (f : A → Location) (xs : List A) (i : ℕ) → i < length (map f xs) → i < length xs
number_within f xs i lt = subst (λ n. i < n) (length-map xs f) lt

label_at : {A : Type 0} (f : A → Location) (xs : List A) (i : ℕ) (x : A) → i < length xs → x ≡ get_or xs i x → Some (f x) ≡ slice_get (map f xs) i
label_at f xs i x lt is =
    ap (λ z. Some (f z)) is ∙ ap (λ (p : Location). Some p) (sym (get_or-map f xs i x))
    ∙ sym (slice_get-get_or (map f xs) i (f x) (subst (λ n. i < n) (sym (length-map xs f)) lt))

pub place_at : {A K : Type 0} (f : A → Location) (text : K → List ℕ) (t : BTreeMap K ℕ) (xs : List A) (i : ℕ) (x : A) (w : List ℕ) → IsIndex text t (map f xs) → number_of text t w ≡ Some i
    → i < length xs → x ≡ get_or xs i x → Some (f x) ≡ place_named (map f xs) w
place_at f text t xs i x w index at lt is = label_at f xs i x lt is ∙ ap (option_and_then (slice_get (map f xs))) (sym at) ∙ index.named w
