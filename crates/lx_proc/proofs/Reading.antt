-- Texts and lists of texts, a byte or a pointer at a time.
use Rattle.std.proofs.Common.{◌≡◌, ℕ, suc, ◌+◌, ◌-◌, ◌<◌, ◌≤◌, true, false, List, [], ◌∷◌, ◌++◌, Option, Some, None, refl, ap, sym, ◌∙◌, eqb, append_assoc, arith}
use Rattle.std.proofs.lemmas.List.{append-nil}
use Rattle.std.proofs.lemmas.Bool.Decides.{nat_tests}
use Rattle.rv_mem.specs.Memory.{Memory, first_fault, bytes_at}
use Rattle.rv_mem.specs.declared.rights.Access.TheVariants as access
use Rattle.rv_mem.specs.declared.fault.MemFault.{MemFault}
use Rattle.lx_proc.specs.declared.texts.Text.TheVariants as answer
use Rattle.lx_proc.specs.declared.texts.Text.{Text as Answer}
use Rattle.lx_proc.specs.Read.{text_of}
use Rattle.lx_proc.specs.Texts.{Text, Whole, TooLong, Unreadable, after, next_address, byte_at, pointer_at, text_at, any_length, whole, with_first, texts_at}

-- bytes before a text
abbrev pub before : List ℕ → Text → Text
before bytes (Whole more) = Whole (bytes ++ more)
before bytes TooLong = TooLong
before bytes Unreadable = Unreadable

-- texts before others
abbrev pub texts_before : List (List ℕ) → Option (List (List ℕ)) → Option (List (List ℕ))
texts_before texts None = None
texts_before texts (Some more) = Some (texts ++ more)

pub none_before : (t : Text) → before [] t ≡ t
none_before (Whole bytes) = refl
none_before TooLong = refl
none_before Unreadable = refl

one_more_before : (bytes : List ℕ) (b : ℕ) (t : Text) → before (bytes ++ b ∷ []) t ≡ before bytes (after b t)
one_more_before bytes b (Whole more) = ap Whole (append_assoc bytes (b ∷ []) more)
one_more_before bytes b TooLong = refl
one_more_before bytes b Unreadable = refl

one_byte : (m : Memory) (a : ℕ) → bytes_at m a 1 ≡ byte_at m a ∷ []
unfolding bytes_at
one_byte m a = refl

pub is_no_nul : (b : ℕ) → ¬ (b ≡ 0) → eqb b 0 ≡ false
is_no_nul b h = grind (arith, nat_tests)

-- a byte that can't be read
pub text_unreadable : (m : Memory) (n i a : ℕ) (front : List ℕ) (total : Text) (f : MemFault) → i < n → first_fault access.Read m a 1 ≡ Some f
    → before front (text_at m (n - i) a) ≡ total → Unreadable ≡ total
unfolding text_at
text_unreadable m n i a front total f lt fault so_far =
    let k : n - i ≡ suc (n - (i + 1)) = omega arith in
    let one : before front (text_at m (n - i) a) ≡ Unreadable = rw (k, fault) refl in
    sym one ∙ so_far

-- the NUL
pub text_ended : (m : Memory) (n i a : ℕ) (front : List ℕ) (total : Text) → i < n → first_fault access.Read m a 1 ≡ None → byte_at m a ≡ 0
    → before front (text_at m (n - i) a) ≡ total → Whole front ≡ total
unfolding text_at
text_ended m n i a front total lt fine nul so_far =
    let k : n - i ≡ suc (n - (i + 1)) = omega arith in
    let is : eqb (byte_at m a) 0 ≡ true = ap (λ b. eqb b 0) nul in
    let one : before front (text_at m (n - i) a) ≡ Whole front = rw (k, fine, is) (ap Whole (append-nil front)) in
    sym one ∙ so_far

-- a byte of the text
pub text_goes_on : (m : Memory) (n i a : ℕ) (front : List ℕ) (total : Text) → i < n → first_fault access.Read m a 1 ≡ None → ¬ (byte_at m a ≡ 0)
    → before front (text_at m (n - i) a) ≡ total → before (front ++ bytes_at m a 1) (text_at m (n - (i + 1)) (next_address a 1)) ≡ total
unfolding text_at
text_goes_on m n i a front total lt fine more so_far =
    let k : n - i ≡ suc (n - (i + 1)) = omega arith in
    let rest = text_at m (n - (i + 1)) (next_address a 1) in
    let one : before front (text_at m (n - i) a) ≡ before front (after (byte_at m a) rest) = rw (k, fine, is_no_nul (byte_at m a) more) refl in
    ap (λ bytes. before (front ++ bytes) rest) (one_byte m a) ∙ one_more_before front (byte_at m a) rest ∙ sym one ∙ so_far

-- no byte is left to look at
pub text_too_long : (m : Memory) (n i a : ℕ) (front : List ℕ) (total : Text) → n ≤ i → before front (text_at m (n - i) a) ≡ total → TooLong ≡ total
unfolding text_at
text_too_long m n i a front total le so_far =
    let k : n - i ≡ 0 = omega arith in
    let one : before front (text_at m (n - i) a) ≡ TooLong = rw k refl in
    sym one ∙ so_far

pub no_texts_before : (texts : Option (List (List ℕ))) → texts_before [] texts ≡ texts
no_texts_before None = refl
no_texts_before (Some texts) = refl

one_more_text_before : (texts : List (List ℕ)) (t : List ℕ) (rest : Option (List (List ℕ))) → texts_before (texts ++ t ∷ []) rest ≡ texts_before texts (with_first (Some t) rest)
one_more_text_before texts t None = refl
one_more_text_before texts t (Some more) = ap Some (append_assoc texts (t ∷ []) more)

-- a pointer that can't be read
pub pointer_unreadable : (m : Memory) (n i a : ℕ) (front : List (List ℕ)) (total : Option (List (List ℕ))) (f : MemFault) → i < n → first_fault access.Read m a 8 ≡ Some f
    → texts_before front (texts_at m (n - i) a) ≡ total → None ≡ total
unfolding texts_at
pointer_unreadable m n i a front total f lt fault so_far =
    let k : n - i ≡ suc (n - (i + 1)) = omega arith in
    let one : texts_before front (texts_at m (n - i) a) ≡ None = rw (k, fault) refl in
    sym one ∙ so_far

-- the null pointer
pub texts_ended : (m : Memory) (n i a : ℕ) (front : List (List ℕ)) (total : Option (List (List ℕ))) → i < n → first_fault access.Read m a 8 ≡ None → pointer_at m a ≡ 0
    → texts_before front (texts_at m (n - i) a) ≡ total → Some front ≡ total
unfolding texts_at
texts_ended m n i a front total lt fine null so_far =
    let k : n - i ≡ suc (n - (i + 1)) = omega arith in
    let is : eqb (pointer_at m a) 0 ≡ true = ap (λ b. eqb b 0) null in
    let one : texts_before front (texts_at m (n - i) a) ≡ Some front = rw (k, fine, is) (ap Some (append-nil front)) in
    sym one ∙ so_far

-- a text that can't be read
pub texts_unreadable : (m : Memory) (n i a : ℕ) (front : List (List ℕ)) (total : Option (List (List ℕ))) → i < n → first_fault access.Read m a 8 ≡ None → ¬ (pointer_at m a ≡ 0)
    → whole (text_at m any_length (pointer_at m a)) ≡ None
    → texts_before front (texts_at m (n - i) a) ≡ total → None ≡ total
unfolding texts_at
texts_unreadable m n i a front total lt fine more none so_far =
    let k : n - i ≡ suc (n - (i + 1)) = omega arith in
    let one : texts_before front (texts_at m (n - i) a) ≡ None = rw (k, fine, is_no_nul (pointer_at m a) more, none) refl in
    sym one ∙ so_far

-- a text of the list
pub texts_go_on : (m : Memory) (n i a : ℕ) (front : List (List ℕ)) (total : Option (List (List ℕ))) (t : List ℕ) → i < n → first_fault access.Read m a 8 ≡ None → ¬ (pointer_at m a ≡ 0)
    → whole (text_at m any_length (pointer_at m a)) ≡ Some t
    → texts_before front (texts_at m (n - i) a) ≡ total → texts_before (front ++ t ∷ []) (texts_at m (n - (i + 1)) (next_address a 8)) ≡ total
unfolding texts_at
texts_go_on m n i a front total t lt fine more some so_far =
    let k : n - i ≡ suc (n - (i + 1)) = omega arith in
    let rest = texts_at m (n - (i + 1)) (next_address a 8) in
    let one : texts_before front (texts_at m (n - i) a) ≡ texts_before front (with_first (Some t) rest) = rw (k, fine, is_no_nul (pointer_at m a) more, some) refl in
    one_more_text_before front t rest ∙ sym one ∙ so_far

-- no pointer is left to look at
pub texts_too_many : (m : Memory) (n i a : ℕ) (front : List (List ℕ)) (total : Option (List (List ℕ))) → n ≤ i → texts_before front (texts_at m (n - i) a) ≡ total → None ≡ total
unfolding texts_at
texts_too_many m n i a front total le so_far =
    let k : n - i ≡ 0 = omega arith in
    let one : texts_before front (texts_at m (n - i) a) ≡ None = rw k refl in
    sym one ∙ so_far

-- what is no whole text
pub not_whole : (t : Answer) → ((bytes : List ℕ) → ¬ (t ≡ answer.Whole bytes)) → whole (text_of t) ≡ None
not_whole (answer.Whole bytes) other = absurd (other bytes refl)
not_whole answer.TooLong other = refl
not_whole answer.Unreadable other = refl
