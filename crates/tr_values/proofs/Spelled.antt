-- What the table of spellings holds: each row is tried.
use Rattle.std.proofs.Common.{ℕ, zero, suc, ◌≡◌, ◌<◌, ◌≤◌, ◌+◌, ◌-◌, ◌==◌, ◌&&◌, if◌then◌else◌, Bool, true, false, nat_le, nat_lt}
use Rattle.std.proofs.Common.{List, [], ◌∷◌, take, length, slice_index_or, refl, subst, ap, ◌∙◌, arith}
use Rattle.std.specs.List.{list_all}
use Rattle.std.specs.Fmt.{digits}
use Rattle.std.specs.Str.{IsAscii}
use Rattle.std.proofs.lemmas.Bool.Decides.{nat_tests}
use Rattle.tr_values.specs.Escapes.{escape, is_digit}
use Rattle.tr_values.specs.declared.spellings.TheConstants.{TEXTS, LENGTHS, STARTS}

never : {A : Type 0} → false ≡ true → A
never h = absurd (cc h)

both : (a b : Bool) → (a && b) ≡ true → (a ≡ true) × (b ≡ true)
both true true h = (refl, refl)
both true false h = never h
both false b h = never h

same : List ℕ → List ℕ → Bool
same [] [] = true
same [] (y ∷ ys) = false
same (x ∷ xs) [] = false
same (x ∷ xs) (y ∷ ys) = (x == y) && same xs ys

is_same : (x y : ℕ) → (x == y) ≡ true → x ≡ y
is_same x y h = grind (arith, nat_tests)

equal : (xs ys : List ℕ) → same xs ys ≡ true → xs ≡ ys
unfolding same
equal [] [] h = refl
equal [] (y ∷ ys) h = never h
equal (x ∷ xs) [] h = never h
equal (x ∷ xs) (y ∷ ys) h =
    let k = both (x == y) (same xs ys) h in
    ap (λ z. z ∷ xs) (is_same x y k.0) ∙ ap (λ zs. y ∷ zs) (equal xs ys k.1)

at_most : (n m : ℕ) → nat_le n m ≡ true → n ≤ m
at_most n m h = grind (arith, nat_tests)

below : (n m : ℕ) → nat_lt n m ≡ true → n < m
below n m h = grind (arith, nat_tests)

ascii : (text : List ℕ) → list_all (λ c. nat_lt c 128) text ≡ true → IsAscii text
ascii [] h i = omega arith
ascii (c ∷ cs) h zero = below c 128 (both (nat_lt c 128) (list_all (λ c. nat_lt c 128) cs) h).0
ascii (c ∷ cs) h (suc i) = ascii cs (both (nat_lt c 128) (list_all (λ c. nat_lt c 128) cs) h).1 i

-- what stands at a place of the table
abbrev pub spelling : ℕ → List ℕ
spelling i = if nat_lt i 256 then escape i false else escape (i - 256) true

row : ℕ → List ℕ → ℕ → Bool
row i text n = same (take n text) (spelling i) && (nat_le n 4 && list_all (λ c. nat_lt c 128) text)

rows : ℕ → List (List ℕ) → List ℕ → Bool
rows i [] ns = true
rows i (text ∷ texts) [] = false
rows i (text ∷ texts) (n ∷ ns) = row i text n && rows (suc i) texts ns

abbrev pub Row : List ℕ → List ℕ → ℕ → Type 0
Row spelled text n = (take n text ≡ spelled) × (n ≤ 4) × IsAscii text

holds : (i n : ℕ) (text : List ℕ) → row i text n ≡ true → Row (spelling i) text n
unfolding row
holds i n text h =
    let k = both (same (take n text) (spelling i)) (nat_le n 4 && list_all (λ c. nat_lt c 128) text) h in
    let l = both (nat_le n 4) (list_all (λ c. nat_lt c 128) text) k.1 in
    (equal (take n text) (spelling i) k.0, at_most n 4 l.0, ascii text l.1)

find : (i j : ℕ) (texts : List (List ℕ)) (ns : List ℕ) → rows i texts ns ≡ true → j < length texts
    → Row (spelling (i + j)) (slice_index_or texts j []) (slice_index_or ns j 0)
unfolding rows
find i j [] ns h lt = absurd (omega (arith, lt))
find i j (text ∷ texts) [] h lt = never h
find i zero (text ∷ texts) (n ∷ ns) h lt =
    let e : i ≡ i + 0 = omega arith in
    subst (λ a. Row (spelling a) text n) e (holds i n text (both (row i text n) (rows (suc i) texts ns) h).0)
find i (suc j) (text ∷ texts) (n ∷ ns) h lt =
    let k = both (row i text n) (rows (suc i) texts ns) h in
    let e : suc i + j ≡ i + suc j = omega arith in
    subst (λ a. Row (spelling a) (slice_index_or texts j []) (slice_index_or ns j 0)) e
    (find (suc i) j texts ns k.1 (omega (arith, lt)))

tried : rows 0 TEXTS LENGTHS ≡ true
unfolding rows row same digits
tried = refl

at_place : (i : ℕ) → i < 512 → Row (spelling i) (slice_index_or TEXTS i []) (slice_index_or LENGTHS i 0)
at_place i lt =
    let e : 0 + i ≡ i = omega arith in
    subst (λ a. Row (spelling a) (slice_index_or TEXTS i []) (slice_index_or LENGTHS i 0)) e (find 0 i TEXTS LENGTHS tried lt)

abbrev pub first_row : Bool → ℕ
first_row digit_next = if digit_next then 256 else 0

spelling_at : (b : ℕ) (d : Bool) → b < 256 → spelling (first_row d + b) ≡ escape b d
spelling_at b false lt =
    let e : nat_lt (0 + b) 256 ≡ true = grind (arith, nat_tests) in
    let f : 0 + b ≡ b = omega arith in
    rw (e, f) refl
spelling_at b true lt =
    let e : nat_lt (256 + b) 256 ≡ false = grind (arith, nat_tests) in
    let f : 256 + b - 256 ≡ b = omega arith in
    rw (e, f) refl

within : (d : Bool) → first_row d ≤ 256
within false = omega arith
within true = omega arith

pub spelled : (b next at : ℕ) → b < 256 → at ≡ first_row (is_digit next)
    → Row (escape b (is_digit next)) (slice_index_or TEXTS (at + b) []) (slice_index_or LENGTHS (at + b) 0)
spelled b next at lt e =
    rw e
    (let w = within (is_digit next) in
    subst (λ s. Row s (slice_index_or TEXTS (first_row (is_digit next) + b) []) (slice_index_or LENGTHS (first_row (is_digit next) + b) 0))
    (spelling_at b (is_digit next) lt) (at_place (first_row (is_digit next) + b) (omega (arith, w, lt))))

-- where the spellings before a byte begin
starts : ℕ → List ℕ → Bool
starts b [] = true
starts b (n ∷ ns) = (n == first_row (is_digit b)) && starts (suc b) ns

start_at : (b i : ℕ) (ns : List ℕ) → starts b ns ≡ true → i < length ns → slice_index_or ns i 0 ≡ first_row (is_digit (b + i))
unfolding starts
start_at b i [] h lt = absurd (omega (arith, lt))
start_at b zero (n ∷ ns) h lt =
    let e : b ≡ b + 0 = omega arith in
    subst (λ a. n ≡ first_row (is_digit a)) e
    (is_same n (first_row (is_digit b)) (both (n == first_row (is_digit b)) (starts (suc b) ns) h).0)
start_at b (suc i) (n ∷ ns) h lt =
    let e : suc b + i ≡ b + suc i = omega arith in
    subst (λ a. slice_index_or ns i 0 ≡ first_row (is_digit a)) e
    (start_at (suc b) i ns (both (n == first_row (is_digit b)) (starts (suc b) ns) h).1 (omega (arith, lt)))

starts_tried : starts 0 STARTS ≡ true
unfolding starts
starts_tried = refl

pub start_is : (next : ℕ) → next < 256 → slice_index_or STARTS next 0 ≡ first_row (is_digit next)
start_is next lt =
    let e : 0 + next ≡ next = omega arith in
    subst (λ a. slice_index_or STARTS next 0 ≡ first_row (is_digit a)) e (start_at 0 next STARTS starts_tried lt)

pub start_within : (next : ℕ) → next < 256 → slice_index_or STARTS next 0 ≤ 256
start_within next lt = rw (start_is next lt) (within (is_digit next))
