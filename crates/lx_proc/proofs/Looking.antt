-- Texts and lists that are looked at, and not kept, a byte or a pointer at a time.
use Rattle.std.proofs.Common.{◌≡◌, ℕ, zero, suc, ◌+◌, ◌-◌, ◌<◌, ◌≤◌, Bool, true, false, is_some, List, [], ◌∷◌, ◌++◌, length, Option, Some, None, if◌then◌else◌, refl, ap, sym, subst, ◌∙◌, eqb, arith}
use Rattle.std.specs.List.{sum_by}
use Rattle.std.proofs.lemmas.List.Sums.{sum_by-cons, sum_by-append}
use Rattle.lx_abi.specs.Limits.{start_limit}
use Rattle.rv_mem.specs.Memory.{Memory, first_fault}
use Rattle.rv_mem.specs.declared.rights.Access.TheVariants as access
use Rattle.rv_mem.specs.declared.fault.MemFault.{MemFault}
use Rattle.lx_proc.specs.declared.texts.Text.TheVariants as answer
use Rattle.lx_proc.specs.declared.texts.Text.{Text as Answer}
use Rattle.lx_proc.specs.Starts.{cost_of}
use Rattle.lx_proc.specs.Read.{text_of, ReadsWithin, Reads, too_large_if}
use Rattle.lx_proc.specs.Texts.{Text, Whole, TooLong, Unreadable, after, next_address, byte_at, pointer_at, text_on, text_at, any_length, whole, with_first, texts_at}
use Rattle.lx_proc.proofs.Reading.{texts_before, is_no_nul}

-- A limit.

-- what a look at more bytes finds
abbrev pub Finds : Text → Text → ℕ → Type 0
Finds (Whole bytes) further k = further ≡ Whole bytes
Finds TooLong further k = (bytes : List ℕ) → further ≡ Whole bytes → k ≤ length bytes
Finds Unreadable further k = further ≡ Unreadable

abbrev length_of : Text → ℕ
length_of (Whole bytes) = length bytes
length_of TooLong = 0
length_of Unreadable = 0

longer_by : (b : ℕ) (rest : Text) (k : ℕ) → ((bytes : List ℕ) → rest ≡ Whole bytes → k ≤ length bytes) → (bytes : List ℕ) → after b rest ≡ Whole bytes → suc k ≤ length bytes
longer_by b (Whole more) k h bytes e = let n = ap length_of e in let m = h more refl in omega (arith, n, m)
longer_by b TooLong k h bytes e = absurd (cc e)
longer_by b Unreadable k h bytes e = absurd (cc e)

finds_after : (b : ℕ) (near further : Text) (k : ℕ) → Finds near further k → Finds (after b near) (after b further) (suc k)
finds_after b (Whole bytes) further k h = ap (after b) h
finds_after b TooLong further k h = longer_by b further k h
finds_after b Unreadable further k h = ap (after b) h

finds_byte : (is_nul : Bool) (b : ℕ) (near further : Text) (k : ℕ) → Finds near further k → Finds (if is_nul then Whole [] else after b near) (if is_nul then Whole [] else after b further) (suc k)
finds_byte true b near further k h = refl
finds_byte false b near further k h = finds_after b near further k h

finds_on : (fault : Option MemFault) (b : ℕ) (near further : Text) (k : ℕ) → Finds near further k → Finds (text_on fault b near) (text_on fault b further) (suc k)
finds_on (Some f) b near further k h = refl
finds_on None b near further k h = finds_byte (eqb b 0) b near further k h

pub finds : (m : Memory) (k n a : ℕ) → k ≤ n → Finds (text_at m k a) (text_at m n a) k
unfolding text_at
finds m zero n a le = λ bytes e. omega arith
finds m (suc k) zero a le = absurd (omega (arith, le))
finds m (suc k) (suc n) a le = finds_on (first_fault access.Read m a 1) (byte_at m a) _ _ k (finds m k n (next_address a 1) (omega (arith, le)))

abbrev kept : Answer → Option (List ℕ)
kept (answer.Whole bytes) = Some bytes
kept answer.TooLong = None
kept answer.Unreadable = None

abbrev bytes_or_none : Option (List ℕ) → List ℕ
bytes_or_none None = []
bytes_or_none (Some bytes) = bytes

whole_is : (t : Text) (bytes : List ℕ) → whole t ≡ Some bytes → t ≡ Whole bytes
whole_is (Whole more) bytes e = ap (λ o. Whole (bytes_or_none o)) e
whole_is TooLong bytes e = absurd (cc e)
whole_is Unreadable bytes e = absurd (cc e)

reads_found : (t : Answer) (near further : Text) (room : ℕ) → text_of t ≡ near → Finds near further room → ReadsWithin (kept t) room (whole further)
reads_found (answer.Whole bytes) near further room e h = let P : Text → Type 0 = λ x. Finds x further room in ap whole (subst P (sym e) h)
reads_found answer.TooLong near further room e h = let P : Text → Type 0 = λ x. Finds x further room in λ bytes g. (subst P (sym e) h) bytes (whole_is further bytes g)
reads_found answer.Unreadable near further room e h = let P : Text → Type 0 = λ x. Finds x further room in λ bytes g. absurd (cc (ap whole (subst P (sym e) h), g))

-- a text that is read with room for so many bytes
pub reads_within : (t : Answer) (m : Memory) (room a : ℕ) → room ≤ any_length → text_of t ≡ text_at m room a → ReadsWithin (kept t) room (whole (text_at m any_length a))
reads_within t m room a le e = reads_found t (text_at m room a) (text_at m any_length a) room e (finds m room any_length a le)

-- Whether a text can be read.

abbrev pub is_readable : Text → Bool
is_readable t = is_some (whole t)

readable_after : (b : ℕ) (t : Text) → is_readable (after b t) ≡ is_readable t
readable_after b (Whole bytes) = refl
readable_after b TooLong = refl
readable_after b Unreadable = refl

pub text_not_readable : (m : Memory) (n i a : ℕ) (total : Bool) (f : MemFault) → i < n → first_fault access.Read m a 1 ≡ Some f → is_readable (text_at m (n - i) a) ≡ total → false ≡ total
unfolding text_at
text_not_readable m n i a total f lt fault so_far =
    let k : n - i ≡ suc (n - (i + 1)) = omega arith in
    let one : is_readable (text_at m (n - i) a) ≡ false = rw (k, fault) refl in
    sym one ∙ so_far

pub text_readable : (m : Memory) (n i a : ℕ) (total : Bool) → i < n → first_fault access.Read m a 1 ≡ None → byte_at m a ≡ 0 → is_readable (text_at m (n - i) a) ≡ total → true ≡ total
unfolding text_at
text_readable m n i a total lt fine nul so_far =
    let k : n - i ≡ suc (n - (i + 1)) = omega arith in
    let is : eqb (byte_at m a) 0 ≡ true = ap (λ b. eqb b 0) nul in
    let one : is_readable (text_at m (n - i) a) ≡ true = rw (k, fine, is) refl in
    sym one ∙ so_far

pub text_looked_on : (m : Memory) (n i a : ℕ) (total : Bool) → i < n → first_fault access.Read m a 1 ≡ None → ¬ (byte_at m a ≡ 0)
    → is_readable (text_at m (n - i) a) ≡ total → is_readable (text_at m (n - (i + 1)) (next_address a 1)) ≡ total
unfolding text_at
text_looked_on m n i a total lt fine more so_far =
    let k : n - i ≡ suc (n - (i + 1)) = omega arith in
    let rest = text_at m (n - (i + 1)) (next_address a 1) in
    let one : is_readable (text_at m (n - i) a) ≡ is_readable (after (byte_at m a) rest) = rw (k, fine, is_no_nul (byte_at m a) more) refl in
    sym (readable_after (byte_at m a) rest) ∙ sym one ∙ so_far

pub text_never_ends : (m : Memory) (n i a : ℕ) (total : Bool) → n ≤ i → is_readable (text_at m (n - i) a) ≡ total → false ≡ total
unfolding text_at
text_never_ends m n i a total le so_far =
    let k : n - i ≡ 0 = omega arith in
    let one : is_readable (text_at m (n - i) a) ≡ false = rw k refl in
    sym one ∙ so_far

-- Whether a list can be read.

pub pointer_not_readable : (m : Memory) (n i a : ℕ) (total : Bool) (f : MemFault) → i < n → first_fault access.Read m a 8 ≡ Some f → is_some (texts_at m (n - i) a) ≡ total → false ≡ total
unfolding texts_at
pointer_not_readable m n i a total f lt fault so_far =
    let k : n - i ≡ suc (n - (i + 1)) = omega arith in
    let one : is_some (texts_at m (n - i) a) ≡ false = rw (k, fault) refl in
    sym one ∙ so_far

pub texts_readable : (m : Memory) (n i a : ℕ) (total : Bool) → i < n → first_fault access.Read m a 8 ≡ None → pointer_at m a ≡ 0 → is_some (texts_at m (n - i) a) ≡ total → true ≡ total
unfolding texts_at
texts_readable m n i a total lt fine null so_far =
    let k : n - i ≡ suc (n - (i + 1)) = omega arith in
    let is : eqb (pointer_at m a) 0 ≡ true = ap (λ b. eqb b 0) null in
    let one : is_some (texts_at m (n - i) a) ≡ true = rw (k, fine, is) refl in
    sym one ∙ so_far

-- one text, and those behind it
pub one_text : (m : Memory) (n i a : ℕ) → i < n → first_fault access.Read m a 8 ≡ None → ¬ (pointer_at m a ≡ 0)
    → texts_at m (n - i) a ≡ with_first (whole (text_at m any_length (pointer_at m a))) (texts_at m (n - (i + 1)) (next_address a 8))
unfolding texts_at
one_text m n i a lt fine more =
    let k : n - i ≡ suc (n - (i + 1)) = omega arith in
    rw (k, fine, is_no_nul (pointer_at m a) more) refl

pub texts_never_end : (m : Memory) (n i a : ℕ) (total : Bool) → n ≤ i → is_some (texts_at m (n - i) a) ≡ total → false ≡ total
unfolding texts_at
texts_never_end m n i a total le so_far =
    let k : n - i ≡ 0 = omega arith in
    let one : is_some (texts_at m (n - i) a) ≡ false = rw k refl in
    sym one ∙ so_far

-- A list that is too large for a program's start.

abbrev pub texts_or_none : Option (List (List ℕ)) → List (List ℕ)
texts_or_none None = []
texts_or_none (Some texts) = texts

costs_first : (first : Option (List ℕ)) (rest : Option (List (List ℕ))) (texts : List (List ℕ)) (room : ℕ) → with_first first rest ≡ Some texts → ((bytes : List ℕ) → first ≡ Some bytes → room < length bytes + 9) → room < sum_by cost_of texts
costs_first None rest texts room e over = absurd (cc e)
costs_first (Some t) None texts room e over = absurd (cc e)
costs_first (Some t) (Some ts) texts room e over =
    let same : t ∷ ts ≡ texts = ap texts_or_none e in
    let sum = ap (sum_by cost_of) same in
    let first = sum_by-cons cost_of t ts in
    let much = over t refl in
    omega (arith, sum, first, much)

judged : (front : List (List ℕ)) (rest total : Option (List (List ℕ))) (room : ℕ) → texts_before front rest ≡ total → room + sum_by cost_of front ≡ start_limit
    → ((texts : List (List ℕ)) → rest ≡ Some texts → room < sum_by cost_of texts) → (b : Bool) → b ≡ is_some rest → Reads (too_large_if b) total
judged front None total room so_far spent over true e = absurd (cc e)
judged front None total room so_far spent over false e = sym so_far
judged front (Some ts) total room so_far spent over true e =
    let sum = sum_by-append cost_of front ts in
    let much = over ts refl in
    (front ++ ts, sym so_far, omega (arith, sum, much, spent))
judged front (Some ts) total room so_far spent over false e = absurd (cc e)

-- the next text has more bytes than there is room for
pub too_large_from : (m : Memory) (n i a : ℕ) (front : List (List ℕ)) (total : Option (List (List ℕ))) (room : ℕ) → i < n → first_fault access.Read m a 8 ≡ None → ¬ (pointer_at m a ≡ 0)
    → texts_before front (texts_at m (n - i) a) ≡ total → room + sum_by cost_of front ≡ start_limit
    → ((bytes : List ℕ) → whole (text_at m any_length (pointer_at m a)) ≡ Some bytes → room < length bytes + 9)
    → Reads (too_large_if (is_some (texts_at m (n - i) a))) total
too_large_from m n i a front total room lt fine more so_far spent over =
    judged front (texts_at m (n - i) a) total room so_far spent
    (λ texts e. costs_first (whole (text_at m any_length (pointer_at m a))) (texts_at m (n - (i + 1)) (next_address a 8)) texts room (sym (one_text m n i a lt fine more) ∙ e) over)
    (is_some (texts_at m (n - i) a)) refl

-- a text for which there is no room
pub not_within : (o : Option (List ℕ)) (room : ℕ) (text : Option (List ℕ)) → ReadsWithin o room text → ((t : List ℕ) → ¬ (o ≡ Some t)) → (bytes : List ℕ) → text ≡ Some bytes → room < length bytes + 9
not_within None room text h other bytes e = let k = h bytes e in omega (arith, k)
not_within (Some t) room text h other bytes e = absurd (other t refl)

-- a text for which there is room, but not for its NUL and its pointer
pub no_room : (o : Option (List ℕ)) (t : List ℕ) (room : ℕ) (text : Option (List ℕ)) → ReadsWithin o room text → o ≡ Some t → room < length t + 9 → (bytes : List ℕ) → text ≡ Some bytes → room < length bytes + 9
no_room None t room text h is much bytes e = absurd (cc is)
no_room (Some u) t room text h is much bytes e =
    let same = ap (λ o. length (bytes_or_none o)) (sym is ∙ sym h ∙ e) in
    omega (arith, same, much)
