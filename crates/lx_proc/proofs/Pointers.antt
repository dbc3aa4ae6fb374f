-- Texts at pointers that are looked at in another order than the list's.
use Rattle.std.proofs.Common.{◌≡◌, ℕ, ◌+◌, ◌-◌, ◌%◌, ◌<◌, ◌≤◌, Bool, true, false, is_some, List, [], ◌∷◌, ◌++◌, Option, Some, None, refl, ap, sym, subst, ◌∙◌, arith}
use Rattle.std.specs.Prelude.{not, ◌&&◌, ◌||◌, nat_le}
use Rattle.std.specs.List.{list_any}
use Rattle.std.proofs.lemmas.Bool.Decides.{nat_tests}
use Rattle.std.proofs.lemmas.List.Folds.{list_any-append}
use Rattle.rv_mem.specs.Memory.{Memory, first_fault}
use Rattle.rv_mem.specs.declared.rights.Access.TheVariants as access
use Rattle.rv_mem.specs.declared.fault.MemFault.{MemFault}
use Rattle.lx_proc.specs.Read.{is_text, is_no_text, AreTexts}
use Rattle.lx_proc.specs.Texts.{Text, Whole, TooLong, Unreadable, next_address, byte_at, pointer_at, text_at, any_length, whole, with_first, texts_at}
use Rattle.lx_proc.proofs.Looking.{is_readable, Finds, finds, text_readable, text_looked_on, pointer_not_readable, texts_readable, texts_never_end, one_text}

-- Where a text ends.

found_readable : (t u : Text) (k : ℕ) → Finds t u k → is_readable t ≡ true → is_readable u ≡ true
found_readable (Whole bytes) u k h e = ap is_readable h
found_readable TooLong u k h e = absurd (cc e)
found_readable Unreadable u k h e = absurd (cc e)

longer : (m : Memory) (k n a : ℕ) → k ≤ n → is_readable (text_at m k a) ≡ true → is_readable (text_at m n a) ≡ true
longer m k n a le e = found_readable (text_at m k a) (text_at m n a) k (finds m k n a le) e

-- the text from each byte that was passed can be read where that from the place that was reached can
abbrev pub Passed : Memory → ℕ → ℕ → ℕ → Type 0
Passed m address i at = (j : ℕ) → j ≤ i → is_readable (text_at m (any_length - j) ((address + j) % 18446744073709551616)) ≡ is_readable (text_at m (any_length - i) at)

pub nothing_passed : (m : Memory) (address : ℕ) → address < 18446744073709551616 → Passed m address 0 address
nothing_passed m address small j le =
    let none : j ≡ 0 = omega arith in
    let here : (address + j) % 18446744073709551616 ≡ address = omega arith in
    (λ i. is_readable (text_at m (any_length - none i) (here i)))

-- the text from the first byte among them
pub first_passed : (m : Memory) (address i at : ℕ) → address < 18446744073709551616 → Passed m address i at → is_readable (text_at m (any_length - i) at) ≡ is_readable (text_at m any_length address)
first_passed m address i at small passed =
    let here : (address + 0) % 18446744073709551616 ≡ address = omega arith in
    sym (passed 0 (omega arith)) ∙ ap (λ (a : ℕ). is_readable (text_at m any_length a)) here

last_or_less : (j i : ℕ) (P : Type 0) (b : Bool) → nat_le j i ≡ b → j ≤ i + 1 → (j ≤ i → P) → (j ≡ i + 1 → P) → P
last_or_less j i P true e le near last = near (grind (arith, nat_tests))
last_or_less j i P false e le near last = last (grind (arith, nat_tests))

pub one_passed : (m : Memory) (address i at : ℕ) → i < any_length → at ≡ (address + i) % 18446744073709551616 → first_fault access.Read m at 1 ≡ None → ¬ (byte_at m at ≡ 0) → Passed m address i at → Passed m address (i + 1) (next_address at 1)
one_passed m address i at lt is fine more passed j le =
    let next = sym (text_looked_on m any_length i at _ lt fine more refl) in
    let near : j ≤ i → is_readable (text_at m (any_length - j) ((address + j) % 18446744073709551616)) ≡ is_readable (text_at m (any_length - (i + 1)) (next_address at 1)) = λ h. passed j h ∙ next in
    let last : j ≡ i + 1 → is_readable (text_at m (any_length - j) ((address + j) % 18446744073709551616)) ≡ is_readable (text_at m (any_length - (i + 1)) (next_address at 1)) = λ e.
    let here : (address + j) % 18446744073709551616 ≡ (at + 1) % 18446744073709551616 = omega arith in
    (λ k. is_readable (text_at m (any_length - e k) (here k))) in
    last_or_less j i (is_readable (text_at m (any_length - j) ((address + j) % 18446744073709551616)) ≡ is_readable (text_at m (any_length - (i + 1)) (next_address at 1))) (nat_le j i) refl le near last

pub texts_passed : (m : Memory) (address i at : ℕ) → address < 18446744073709551616 → i < any_length → at ≡ (address + i) % 18446744073709551616 → first_fault access.Read m at 1 ≡ None → byte_at m at ≡ 0 → Passed m address i at → AreTexts m address at
texts_passed m address i at small lt is fine nul passed b low high =
    let near : b - address ≤ i = omega arith in
    let here : (address + (b - address)) % 18446744073709551616 ≡ b = omega arith in
    let one = passed (b - address) near ∙ sym (text_readable m any_length i at _ lt fine nul refl) in
    longer m (any_length - (b - address)) any_length b (omega arith) (subst (λ (a : ℕ). is_readable (text_at m (any_length - (b - address)) a) ≡ true) here one)

-- The pointers of a list.

-- the pointers so far have texts, and the rest of the list can be read
abbrev pub so_far : Memory → List ℕ → ℕ → ℕ → Bool
so_far m front n a = not (list_any (is_no_text m) front) && is_some (texts_at m n a)

and_false : (b : Bool) → (b && false) ≡ false
and_false true = refl
and_false false = refl

and_true : (b : Bool) → (b && true) ≡ b
and_true true = refl
and_true false = refl

one_more : (seen text rest : Bool) → (not (seen || not text) && rest) ≡ (not seen && (text && rest))
one_more true text rest = refl
one_more false true rest = refl
one_more false false rest = refl

no_more : (b : Bool) → (b || false) ≡ b
no_more true = refl
no_more false = refl

pub unreadable_pointer : (m : Memory) (n i a : ℕ) (front : List ℕ) (total : Bool) (f : MemFault) → i < n → first_fault access.Read m a 8 ≡ Some f → so_far m front (n - i) a ≡ total → total ≡ false
unreadable_pointer m n i a front total f lt fault h =
    sym h ∙ ap (λ b. not (list_any (is_no_text m) front) && b) (sym (pointer_not_readable m n i a _ f lt fault refl)) ∙ and_false (not (list_any (is_no_text m) front))

pub null_pointer : (m : Memory) (n i a : ℕ) (front : List ℕ) (total : Bool) → i < n → first_fault access.Read m a 8 ≡ None → pointer_at m a ≡ 0 → so_far m front (n - i) a ≡ total → total ≡ not (list_any (is_no_text m) front)
null_pointer m n i a front total lt fine null h =
    sym h ∙ ap (λ b. not (list_any (is_no_text m) front) && b) (sym (texts_readable m n i a _ lt fine null refl)) ∙ and_true (not (list_any (is_no_text m) front))

pub too_many_pointers : (m : Memory) (n i a : ℕ) (front : List ℕ) (total : Bool) → n ≤ i → so_far m front (n - i) a ≡ total → total ≡ false
too_many_pointers m n i a front total le h =
    sym h ∙ ap (λ b. not (list_any (is_no_text m) front) && b) (sym (texts_never_end m n i a _ le refl)) ∙ and_false (not (list_any (is_no_text m) front))

both : (first : Option (List ℕ)) (rest : Option (List (List ℕ))) → is_some (with_first first rest) ≡ (is_some first && is_some rest)
both None rest = refl
both (Some t) None = refl
both (Some t) (Some ts) = refl

pub one_more_pointer : (m : Memory) (n i a : ℕ) (front : List ℕ) (total : Bool) → i < n → first_fault access.Read m a 8 ≡ None → ¬ (pointer_at m a ≡ 0) → so_far m front (n - i) a ≡ total → so_far m (front ++ pointer_at m a ∷ []) (n - (i + 1)) (next_address a 8) ≡ total
one_more_pointer m n i a front total lt fine more h =
    let p = pointer_at m a in
    let rest = texts_at m (n - (i + 1)) (next_address a 8) in
    let seen = list_any (is_no_text m) front in
    ap (λ b. not b && is_some rest) (list_any-append (is_no_text m) front (p ∷ []) ∙ ap (λ b. seen || b) (no_more (is_no_text m p)))
    ∙ one_more seen (is_text m p) (is_some rest)
    ∙ ap (λ b. not seen && b) (sym (both (whole (text_at m any_length p)) rest) ∙ sym (ap is_some (one_text m n i a lt fine more)))
    ∙ h
