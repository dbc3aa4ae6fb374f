-- What is read is spelled so, and what is spelled so is read: for each field, and for fields one after the other.
use Rattle.std.proofs.Common.{◌≡◌, ℕ, zero, suc, ◌+◌, ◌*◌, ◌%◌, ◌^◌, ◌<◌, ◌≤◌, Bool, true, false, cond, ltb, eqb, List, [], ◌∷◌, ◌++◌, length, get_or, take, drop, Option, Some, None, refl, sym, ap, subst, ◌∙◌, append_assoc, arith, inl, inr, ◌⊎◌}
use Rattle.std.specs.List.{flat_map, AllByRecursion}
use Rattle.std.proofs.Math.Seq.{take-add}
use Rattle.std.specs.Int.{w32, w64, from_be_bytes, from_le_bytes}
use Rattle.std.proofs.lemmas.Bool.{cases_lt, cases_Bool, ltb-false, le-ltb, eqb-true, cond-true, cond-false}
use Rattle.std.proofs.lemmas.List.{take_at, drop_at, take-append-drop, length-append, length-take-le, length-take, length-drop, get_or-drop, get_or-take, get_or_past}
use Rattle.std.proofs.lemmas.Nat.{be_bytes_4, be_bytes_8, le_bytes_8}
use Rattle.std.proofs.lemmas.Option.{some_pair_parts}
use Rattle.byteorder.specs.Endian.{big_number, big_bytes, little_number, little_bytes}
use Rattle.byteorder.specs.Numbers.{big_from-take, big_number-reads_back, big_from-lt, length-bytes_high_first, little_from-take, little_number-reads_back, little_from-lt, length-bytes_low_first}
use Rattle.lx_abi.specs.declared.boot.GuestFile.{GuestFile}
use Rattle.host_values.specs.Reading.{◌>>=◌, number_at, registers_at, doubles, text_at, each_at, items_at, guest_file_at}
use Rattle.host_values.proofs.Sizes.{registers_size}
use Rattle.host_values.specs.Spelling.{word, double, registers, text, items, AreRegisters}

abbrev pub IsBytes : List ℕ → Type 0
IsBytes bytes = (i : ℕ) → get_or bytes i 0 < 256

pub IsBytes-drop : (n : ℕ) (bytes : List ℕ) → IsBytes bytes → IsBytes (drop n bytes)
IsBytes-drop n bytes h i = rw get_or-drop (h (n + i))

IsBytes-take : (n : ℕ) (bytes : List ℕ) → IsBytes bytes → IsBytes (take n bytes)
IsBytes-take n bytes h i =
    elim (cases_lt i n) [
      | inl lt ↦ rw (get_or-take n bytes i 0 lt) (h i)
      | inr le ↦ rw (get_or_past (take n bytes) i 0 (omega (arith, length-take n bytes))) (omega arith)
    ]

-- the value of a step that did not fail
pub bind_some : {A B : Type 0} (r : Option A) (f : A → Option B) (y : B) → (r >>= f) ≡ Some y → (x : A) × (r ≡ Some x) × (f x ≡ Some y)
bind_some (Some x) f y e = (x, refl, e)
bind_some None f y e = absurd cc

guard_some : {A : Type 0} (b : Bool) (x y : A) → cond b None (Some x) ≡ Some y → (b ≡ false) × (x ≡ y)
guard_some true x y e = absurd cc
guard_some false x y e = (refl, cc)

pub some_is : {A : Type 0} (x y : A) → Some x ≡ Some y → x ≡ y
some_is x y e = cc

-- what was taken from the front
pub record Takes (bytes text rest : List ℕ) : Type 0 where
  pub parts : bytes ≡ text ++ rest
  pub rest_fits : IsBytes rest

pub Takes-then : (a x b y c : List ℕ) → Takes a x b → Takes b y c → Takes a (x ++ y) c
Takes-then a x b y c p q = record { parts = p.parts ∙ ap (λ (t : List ℕ). x ++ t) q.parts ∙ sym (append_assoc x y c); rest_fits = q.rest_fits }

-- reads is the inverse of spell, for the values that make makes
pub record IsForm {A X : Type 0} (make : A → X) (Fits : A → Type 0) (spell : A → List ℕ) (reads : List ℕ → Option (X × List ℕ)) : Type 0 where
  pub takes : (bytes : List ℕ) (x : X) (rest : List ℕ) → IsBytes bytes → reads bytes ≡ Some (x, rest) → (a : A) × (x ≡ make a) × Fits a × Takes bytes (spell a) rest
  pub again : (a : A) (rest : List ℕ) → Fits a → reads (spell a ++ rest) ≡ Some (make a, rest)

abbrev pub same : {A : Type 0} → A → A
same x = x

-- ---- numbers

abbrev pub IsSpelledBack : ℕ → Type 0
IsSpelledBack n = (bytes : List ℕ) → n ≤ length bytes → IsBytes bytes → big_bytes n (big_number n bytes) ≡ take n bytes

back1 : IsSpelledBack 1
back1 [] le fits = absurd (omega (arith, le))
back1 (b ∷ bs) le fits = let lt : b < 256 = fits 0 in let e : (b * 1 + 0) % 256 ≡ b = omega (arith, lt) in ap (λ (x : ℕ). x ∷ []) e

pub back4 : IsSpelledBack 4
back4 bytes le fits =
    let front = take 4 bytes in
    let n : big_number 4 front ≡ big_number 4 bytes = big_from-take 0 4 4 bytes (omega arith) in
    let e : big_number 4 front ≡ from_be_bytes w32 front = omega arith in
    be_bytes_4 front (big_number 4 bytes) (length-take-le 4 bytes le) (IsBytes-take 4 bytes fits) (sym n ∙ e)

pub back8 : IsSpelledBack 8
back8 bytes le fits =
    let front = take 8 bytes in
    let n : big_number 8 front ≡ big_number 8 bytes = big_from-take 0 8 8 bytes (omega arith) in
    let e : big_number 8 front ≡ from_be_bytes w64 front = omega arith in
    be_bytes_8 front (big_number 8 bytes) (length-take-le 8 bytes le) (IsBytes-take 8 bytes fits) (sym n ∙ e)

number_form : (n : ℕ) → IsSpelledBack n → IsForm (same {A = ℕ}) (λ x. x < 256 ^ n) (big_bytes n) (number_at n)
number_form n back = record {
  takes = λ bytes x rest fits e.
      let g = guard_some (ltb (length bytes) n) (big_number n bytes, drop n bytes) (x, rest) e in
      let le : n ≤ length bytes = ltb-false _ _ g.0 in
      let x-is : big_number n bytes ≡ x = ap (λ (p : ℕ × List ℕ). p.0) g.1 in
      let rest-is : drop n bytes ≡ rest = ap (λ (p : ℕ × List ℕ). p.1) g.1 in
      let parts : bytes ≡ big_bytes n x ++ rest = rw (← x-is, ← rest-is, back bytes le fits) (sym (take-append-drop n bytes)) in
      (x, refl, rw (← x-is) (big_from-lt 0 n bytes fits), record { parts = parts; rest_fits = rw (← rest-is) (IsBytes-drop n bytes fits) });
  again = λ x rest lt.
      let len : length (big_bytes n x) ≡ n = length-bytes_high_first n x in
      let long : ltb (length (big_bytes n x ++ rest)) n ≡ false = le-ltb _ _ (omega (arith, length-append (big_bytes n x) rest, len)) in
      rw (long, big_number-reads_back n x rest lt, drop_at (big_bytes n x) rest n len) refl;
}

pub byte_form : IsForm (same {A = ℕ}) (λ x. x < 256 ^ 1) (big_bytes 1) (number_at 1)
byte_form = number_form 1 back1

pub word_form : IsForm (same {A = ℕ}) (λ x. x < 256 ^ 4) word (number_at 4)
word_form = number_form 4 back4

pub double_form : IsForm (same {A = ℕ}) (λ x. x < 256 ^ 8) double (number_at 8)
double_form = number_form 8 back8

-- ---- texts

pub text_form : IsForm (same {A = List ℕ}) (λ t. length t < 256 ^ 4) text text_at
unfolding text_at text
text_form = record {
  takes = λ bytes x rest fits e.
      let b = bind_some (number_at 4 bytes) (λ n. cond (ltb (length n.1) n.0) None (Some (take n.0 n.1, drop n.0 n.1))) (x, rest) e in
      let n = b.0 in
      let t = word_form.takes bytes n.0 n.1 fits b.1 in
      let g = guard_some (ltb (length n.1) n.0) (take n.0 n.1, drop n.0 n.1) (x, rest) b.2 in
      let long : n.0 ≤ length n.1 = ltb-false _ _ g.0 in
      let x-is : take n.0 n.1 ≡ x = ap (λ (p : List ℕ × List ℕ). p.0) g.1 in
      let rest-is : drop n.0 n.1 ≡ rest = ap (λ (p : List ℕ × List ℕ). p.1) g.1 in
      let len : length x ≡ n.0 = ap length (sym x-is) ∙ length-take-le n.0 n.1 long in
      let second : Takes n.1 x rest = record { parts = sym (take-append-drop n.0 n.1) ∙ ap (λ (t : List ℕ). t ++ drop n.0 n.1) x-is ∙ ap (λ (t : List ℕ). x ++ t) rest-is; rest_fits = subst IsBytes rest-is (IsBytes-drop n.0 n.1 t.3.rest_fits) } in
      let first : Takes bytes (word (length x)) n.1 = subst (λ (k : ℕ). Takes bytes (word k) n.1) (sym t.1 ∙ sym len) t.3 in
      (x, refl, subst (λ (k : ℕ). k < 256 ^ 4) (sym t.1 ∙ sym len) t.2, Takes-then bytes (word (length x)) n.1 x rest first second);
  again = λ x rest lt.
      let long : ltb (length (x ++ rest)) (length x) ≡ false = le-ltb _ _ (omega (arith, length-append x rest)) in
      let regroup : (word (length x) ++ x) ++ rest ≡ word (length x) ++ (x ++ rest) = append_assoc (word (length x)) x rest in
      ap (λ (bytes : List ℕ). number_at 4 bytes >>= λ n. cond (ltb (length n.1) n.0) None (Some (take n.0 n.1, drop n.0 n.1))) regroup
      ∙ rw (word_form.again (length x) (x ++ rest) lt, long, take_at x rest (length x) refl, drop_at x rest (length x) refl) refl;
}

-- ---- registers

little_back8 : (bytes : List ℕ) → 8 ≤ length bytes → IsBytes bytes → little_bytes 8 (little_number 8 bytes) ≡ take 8 bytes
little_back8 bytes le fits =
    let front = take 8 bytes in
    let n : little_number 8 front ≡ little_number 8 bytes = little_from-take 0 8 8 bytes (omega arith) in
    let e : little_number 8 front ≡ from_le_bytes w64 front = omega arith in
    le_bytes_8 front (little_number 8 bytes) (length-take-le 8 bytes le) (IsBytes-take 8 bytes fits) (sym n ∙ e)

doubles_back : (n : ℕ) (bytes : List ℕ) → 8 * n ≤ length bytes → IsBytes bytes → registers (doubles n bytes) ≡ take (8 * n) bytes
doubles_back zero bytes le fits = refl
doubles_back (suc n) bytes le fits =
    let e : 8 * suc n ≡ 8 + 8 * n = omega arith in
    let ih = doubles_back n (drop 8 bytes) (omega (arith, length-drop 8 bytes, le)) (IsBytes-drop 8 bytes fits) in
    let first = little_back8 bytes (omega (arith, le)) fits in
    ap (λ (t : List ℕ). t ++ registers (doubles n (drop 8 bytes))) first ∙ ap (λ (t : List ℕ). take 8 bytes ++ t) ih ∙ sym (take-add 8 (8 * n) bytes) ∙ ap (λ (k : ℕ). take k bytes) (sym e)

doubles_fit : (n : ℕ) (bytes : List ℕ) → IsBytes bytes → (length (doubles n bytes) ≡ n) × AllByRecursion (λ r. r < 256 ^ 8) (doubles n bytes)
doubles_fit zero bytes fits = (refl, tt)
doubles_fit (suc n) bytes fits =
    let ih = doubles_fit n (drop 8 bytes) (IsBytes-drop 8 bytes fits) in
    (ap suc ih.0, (little_from-lt 0 8 bytes fits, ih.1))

doubles_again : (rs : List ℕ) (rest : List ℕ) → AllByRecursion (λ r. r < 256 ^ 8) rs → doubles (length rs) (registers rs ++ rest) ≡ rs
doubles_again [] rest fits = refl
doubles_again (r ∷ rs) rest fits =
    let regroup : registers (r ∷ rs) ++ rest ≡ little_bytes 8 r ++ (registers rs ++ rest) = append_assoc (little_bytes 8 r) (registers rs) rest in
    let first = little_number-reads_back 8 r (registers rs ++ rest) fits.0 in
    let behind = drop_at (little_bytes 8 r) (registers rs ++ rest) 8 (length-bytes_low_first 0 8 r) in
    ap (doubles (suc (length rs))) regroup ∙ ap (λ (x : ℕ). x ∷ doubles (length rs) (drop 8 (little_bytes 8 r ++ (registers rs ++ rest)))) first
    ∙ ap (λ (xs : List ℕ). r ∷ xs) (ap (doubles (length rs)) behind ∙ doubles_again rs rest fits.1)

pub registers_form : IsForm (same {A = List ℕ}) AreRegisters registers registers_at
unfolding registers_at
registers_form = record {
  takes = λ bytes x rest fits e.
      let g = guard_some (ltb (length bytes) 256) (doubles 32 bytes, drop 256 bytes) (x, rest) e in
      let le : 256 ≤ length bytes = ltb-false _ _ g.0 in
      let x-is : doubles 32 bytes ≡ x = ap (λ (p : List ℕ × List ℕ). p.0) g.1 in
      let rest-is : drop 256 bytes ≡ rest = ap (λ (p : List ℕ × List ℕ). p.1) g.1 in
      let parts : registers x ++ rest ≡ bytes = ap (λ (y : List ℕ). registers y ++ rest) (sym x-is) ∙ ap (λ (t : List ℕ). t ++ rest) (doubles_back 32 bytes le fits) ∙ ap (λ (t : List ℕ). take 256 bytes ++ t) (sym rest-is) ∙ take-append-drop 256 bytes in
      (x, refl, subst AreRegisters x-is (doubles_fit 32 bytes fits), record { parts = sym parts; rest_fits = subst IsBytes rest-is (IsBytes-drop 256 bytes fits) });
  again = λ x rest fits.
      let len : length (registers x) ≡ 256 = omega (arith, registers_size x, fits.0) in
      let long : ltb (length (registers x ++ rest)) 256 ≡ false = le-ltb _ _ (omega (arith, length-append (registers x) rest, len)) in
      let all : doubles 32 (registers x ++ rest) ≡ x = subst (λ (n : ℕ). doubles n (registers x ++ rest) ≡ x) fits.0 (doubles_again x rest fits.1) in
      rw (long, all, drop_at (registers x) rest 256 len) refl;
}

-- ---- fields one after the other

pub of_one : {A X : Type 0} {Fits : A → Type 0} {spell : A → List ℕ} {reads : List ℕ → Option (A × List ℕ)} (make : A → X) → IsForm (same {A = A}) Fits spell reads
    → IsForm make Fits spell (λ bytes. reads bytes >>= λ a. Some (make a.0, a.1))
of_one {A = A} {X = X} {Fits = Fits} {spell = spell} {reads = reads} make f = record {
  takes = λ bytes x rest fits e.
      let b = bind_some (reads bytes) (λ a. Some (make a.0, a.1)) (x, rest) e in
      let t = f.takes bytes b.0.0 b.0.1 fits b.1 in
      let p = some_pair_parts (make b.0.0) x b.0.1 rest b.2 in
      (t.0, sym p.0 ∙ ap make t.1, t.2, subst (λ (r : List ℕ). Takes bytes (spell t.0) r) p.1 t.3);
  again = λ a rest fits. rw (f.again a rest fits) refl;
}

pub of_two : {A B X : Type 0} {Fits : A → Type 0} {spell : A → List ℕ} {reads : List ℕ → Option (A × List ℕ)} {Suits : B → Type 0} {write : B → List ℕ} {gets : List ℕ → Option (B × List ℕ)} (make : A → B → X)
    → IsForm (same {A = A}) Fits spell reads → IsForm (same {A = B}) Suits write gets
    → IsForm {A = A × B} (λ p. make p.0 p.1) (λ p. Fits p.0 × Suits p.1) (λ p. spell p.0 ++ write p.1) (λ bytes. reads bytes >>= λ a. gets a.1 >>= λ b. Some (make a.0 b.0, b.1))
of_two {A = A} {B = B} {X = X} {Fits = Fits} {spell = spell} {reads = reads} {Suits = Suits} {write = write} {gets = gets} make f g = record {
  takes = λ bytes x rest fits e.
      let b = bind_some (reads bytes) (λ a. gets a.1 >>= λ b. Some (make a.0 b.0, b.1)) (x, rest) e in
      let t = f.takes bytes b.0.0 b.0.1 fits b.1 in
      let d = bind_some (gets b.0.1) (λ y. Some (make b.0.0 y.0, y.1)) (x, rest) b.2 in
      let u = g.takes b.0.1 d.0.0 d.0.1 t.3.rest_fits d.1 in
      let p = some_pair_parts (make b.0.0 d.0.0) x d.0.1 rest d.2 in
      let made : make b.0.0 d.0.0 ≡ make t.0 u.0 = ap (λ (z : A). make z d.0.0) t.1 ∙ ap (make t.0) u.1 in
      ((t.0, u.0), sym p.0 ∙ made, (t.2, u.2), subst (λ (r : List ℕ). Takes bytes (spell t.0 ++ write u.0) r) p.1 (Takes-then bytes (spell t.0) b.0.1 (write u.0) d.0.1 t.3 u.3));
  again = λ p rest fits.
      let regroup : (spell p.0 ++ write p.1) ++ rest ≡ spell p.0 ++ (write p.1 ++ rest) = append_assoc (spell p.0) (write p.1) rest in
      ap (λ bytes. reads bytes >>= λ a. gets a.1 >>= λ b. Some (make a.0 b.0, b.1)) regroup ∙ rw (f.again p.0 (write p.1 ++ rest) fits.0, g.again p.1 rest fits.1) refl;
}

-- any further field: a do-block is one of these for each field but the last
pub and_then : {A B X : Type 0} {Fits : A → Type 0} {spell : A → List ℕ} {reads : List ℕ → Option (A × List ℕ)} {Suits : A → B → Type 0} {write : B → List ℕ} {gets : A → List ℕ → Option (X × List ℕ)} (make : A → B → X)
    → IsForm (same {A = A}) Fits spell reads → ((a : A) → IsForm (make a) (Suits a) write (gets a))
    → IsForm {A = A × B} (λ p. make p.0 p.1) (λ p. Fits p.0 × Suits p.0 p.1) (λ p. spell p.0 ++ write p.1) (λ bytes. reads bytes >>= λ a. gets a.0 a.1)
and_then {A = A} {B = B} {X = X} {Fits = Fits} {spell = spell} {reads = reads} {Suits = Suits} {write = write} {gets = gets} make f g = record {
  takes = λ bytes x rest fits e.
      let b = bind_some (reads bytes) (λ a. gets a.0 a.1) (x, rest) e in
      let t = f.takes bytes b.0.0 b.0.1 fits b.1 in
      let u = (g b.0.0).takes b.0.1 x rest t.3.rest_fits b.2 in
      let here : Takes bytes (spell b.0.0) b.0.1 = subst (λ (a : A). Takes bytes (spell a) b.0.1) (sym t.1) t.3 in
      ((b.0.0, u.0), u.1, (subst Fits (sym t.1) t.2, u.2), Takes-then bytes (spell b.0.0) b.0.1 (write u.0) rest here u.3);
  again = λ p rest fits.
      let regroup : (spell p.0 ++ write p.1) ++ rest ≡ spell p.0 ++ (write p.1 ++ rest) = append_assoc (spell p.0) (write p.1) rest in
      ap (λ bytes. reads bytes >>= λ a. gets a.0 a.1) regroup ∙ rw (f.again p.0 (write p.1 ++ rest) fits.0) ((g p.0).again p.1 rest fits.1);
}

-- ---- lists

each_takes : {X : Type 0} {Fits : X → Type 0} {spell : X → List ℕ} {reads : List ℕ → Option (X × List ℕ)} (f : IsForm (same {A = X}) Fits spell reads) (n : ℕ) (bytes : List ℕ) (xs : List X) (rest : List ℕ) → IsBytes bytes
    → each_at reads n bytes ≡ Some (xs, rest) → (length xs ≡ n) × AllByRecursion Fits xs × Takes bytes (flat_map spell xs) rest
each_takes {X = X} {Fits = Fits} {spell = spell} f zero bytes xs rest all e =
    let none : List X = [] in
    let p = some_pair_parts none xs bytes rest e in
    (ap length (sym p.0), subst (AllByRecursion Fits) p.0 tt, record { parts = p.1 ∙ ap (λ (ys : List X). flat_map spell ys ++ rest) p.0; rest_fits = subst IsBytes p.1 all })
each_takes {X = X} {Fits = Fits} {spell = spell} {reads = reads} f (suc n) bytes xs rest all e =
    let b = bind_some (reads bytes) (λ x. each_at reads n x.1 >>= λ ys. Some (x.0 ∷ ys.0, ys.1)) (xs, rest) e in
    let t = f.takes bytes b.0.0 b.0.1 all b.1 in
    let d = bind_some (each_at reads n b.0.1) (λ ys. Some (b.0.0 ∷ ys.0, ys.1)) (xs, rest) b.2 in
    let u = each_takes f n b.0.1 d.0.0 d.0.1 t.3.rest_fits d.1 in
    let p = some_pair_parts (b.0.0 ∷ d.0.0) xs d.0.1 rest d.2 in
    let here : Takes bytes (spell b.0.0) b.0.1 = subst (λ (x : X). Takes bytes (spell x) b.0.1) (sym t.1) t.3 in
    let fits : Fits b.0.0 = subst Fits (sym t.1) t.2 in
    let both : Takes bytes (spell b.0.0 ++ flat_map spell d.0.0) d.0.1 = Takes-then bytes (spell b.0.0) b.0.1 (flat_map spell d.0.0) d.0.1 here u.2 in
    (ap length (sym p.0) ∙ ap suc u.0, subst (AllByRecursion Fits) p.0 (fits, u.1), subst (λ (r : List ℕ). Takes bytes (flat_map spell xs) r) p.1 (subst (λ (ys : List X). Takes bytes (flat_map spell ys) d.0.1) p.0 both))

each_again : {X : Type 0} {Fits : X → Type 0} {spell : X → List ℕ} {reads : List ℕ → Option (X × List ℕ)} (f : IsForm (same {A = X}) Fits spell reads) (xs : List X) (rest : List ℕ) → AllByRecursion Fits xs
    → each_at reads (length xs) (flat_map spell xs ++ rest) ≡ Some (xs, rest)
each_again f [] rest fits = refl
each_again {spell = spell} {reads = reads} f (x ∷ xs) rest fits =
    let regroup : (spell x ++ flat_map spell xs) ++ rest ≡ spell x ++ (flat_map spell xs ++ rest) = append_assoc (spell x) (flat_map spell xs) rest in
    ap (λ (bytes : List ℕ). each_at reads (suc (length xs)) bytes) regroup ∙ rw (f.again x (flat_map spell xs ++ rest) fits.0, each_again f xs rest fits.1) refl

pub items_form : {X : Type 0} {Fits : X → Type 0} {spell : X → List ℕ} {reads : List ℕ → Option (X × List ℕ)} → IsForm (same {A = X}) Fits spell reads
    → IsForm (same {A = List X}) (λ xs. (length xs < 256 ^ 4) × AllByRecursion Fits xs) (items spell) (items_at reads)
unfolding items_at items
items_form {X = X} {Fits = Fits} {spell = spell} {reads = reads} f = record {
  takes = λ bytes xs rest all e.
      let b = bind_some (number_at 4 bytes) (λ n. each_at reads n.0 n.1) (xs, rest) e in
      let t = word_form.takes bytes b.0.0 b.0.1 all b.1 in
      let u = each_takes f b.0.0 b.0.1 xs rest t.3.rest_fits b.2 in
      let count : Takes bytes (word (length xs)) b.0.1 = subst (λ (k : ℕ). Takes bytes (word k) b.0.1) (sym t.1 ∙ sym u.0) t.3 in
      (xs, refl, (subst (λ (k : ℕ). k < 256 ^ 4) (sym t.1 ∙ sym u.0) t.2, u.1), Takes-then bytes (word (length xs)) b.0.1 (flat_map spell xs) rest count u.2);
  again = λ xs rest fits.
      let regroup : (word (length xs) ++ flat_map spell xs) ++ rest ≡ word (length xs) ++ (flat_map spell xs ++ rest) = append_assoc (word (length xs)) (flat_map spell xs) rest in
      ap (λ (bytes : List ℕ). number_at 4 bytes >>= λ n. each_at reads n.0 n.1) regroup ∙ rw (word_form.again (length xs) (flat_map spell xs ++ rest) fits.0) (each_again f xs rest fits.1);
}

-- ---- items of lists

abbrev pub file_is : List ℕ → List ℕ → GuestFile
file_is path content = record { path = path; content = content }

pub guest_file_form : IsForm {A = List ℕ × List ℕ} (λ v. file_is v.0 v.1) (λ v. (length v.0 < 256 ^ 4) × (length v.1 < 256 ^ 4)) (λ v. text v.0 ++ text v.1) guest_file_at
unfolding guest_file_at
guest_file_form = of_two file_is text_form text_form

pub texts_form : IsForm (same {A = List (List ℕ)}) (λ xs. (length xs < 256 ^ 4) × AllByRecursion (λ t. length t < 256 ^ 4) xs) (items text) (items_at text_at)
texts_form = items_form text_form

-- ---- tables

-- a case of a table by kind
pub pick : {A : Type 0} {k c : ℕ} {p q r : A} → cond (eqb k c) p q ≡ r → ((k ≡ c) × (p ≡ r)) ⊎ (q ≡ r)
pick {k = k} {c = c} {p = p} {q = q} e = elim (cases_Bool (eqb k c)) [
  | inl t ↦ inl (eqb-true k c t, sym (cond-true (eqb k c) p q t) ∙ e)
  | inr f ↦ inr (sym (cond-false (eqb k c) p q f) ∙ e)
]
