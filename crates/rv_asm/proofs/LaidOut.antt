-- The image of a listing that has bytes is laid out.
use Rattle.std.proofs.Common.{◌≡◌, ℕ, zero, suc, ◌+◌, ◌-◌, ◌/◌, ◌<◌, ◌≤◌, Bool, true, false, cond, not, List, [], ◌∷◌, ◌++◌, length, count_by, Option, Some, None, Result, Ok, Err, refl, sym, ap, ◌∙◌, subst, arith, length-append}
use Rattle.std.specs.Prelude.{All, nat_lt, ◌==◌}
use Rattle.std.specs.List.{list_any, range_with_len, slice_split}
use Rattle.std.proofs.lemmas.Bool.{ltb-false}
use Rattle.std.proofs.lemmas.List.Elements.{All-nil, All-cons, All-head}
use Rattle.std.proofs.lemmas.List.Sums.{sum_by-cons}
use Rattle.elf_image.specs.declared.image.Image.{Image}
use Rattle.elf_image.specs.declared.image.Segment.{Segment}
use Rattle.elf_image.specs.Layout.{own_pages, touches}
use Rattle.elf_image.specs.Images.{extent_of, IsInRange, IsLaidOut}
use Rattle.rv_asm.specs.declared.code.Expansion.{Expansion}
use Rattle.rv_asm.specs.declared.fault.AsmKind.{AsmKind}
use Rattle.rv_asm.specs.declared.fault.AsmKind.TheVariants as kinds
use Rattle.rv_asm.specs.Codes.{◌>>=◌, Location, instructions_of, words_of, size_of, bytes_of}
use Rattle.rv_syntax.specs.Statements.{Said}
use Rattle.rv_asm.specs.Lines.{labels_of, body_of, statement_of}
use Rattle.rv_asm.specs.Listing.{checked, said_bytes, is_duplicate, line_bytes, located, bytes_from, places_of, entry_of, image_at, image_of, listing_of}
use Rattle.rv_asm.proofs.Sizes.{sizes_agree}

steps : {A B E : Type 0} (r : Result A E) (f : A → Result B E) (x : B) → (r >>= f) ≡ Ok x → (a : A) × (r ≡ Ok a) × (f a ≡ Ok x)
steps (Ok a) f x e = (a, refl, e)
steps (Err k) f x e = absurd cc

-- ---- no listing passes its end

passed : (d b : Bool) (w ws : Expansion ℕ) → ◌≡◌ {A = Result (Expansion ℕ) AsmKind} (cond d (Err kinds.Duplicate) (cond b (Err kinds.TooLarge) (Ok w))) (Ok ws) → (b ≡ false) × (w ≡ ws)
passed true b w ws e = absurd cc
passed false true w ws e = absurd cc
passed false false w ws e = (refl, cc)

statement_fits : (ps : List Location) (at : ℕ) (d : Bool) (s : Said) (ws : Expansion ℕ) → checked ps at d s ≡ Ok ws → at + length (bytes_of at s ws) ≤ 0x20000
statement_fits ps at d s ws e =
    let found = steps (instructions_of ps at s) (λ is. words_of is >>= λ w. cond d (Err kinds.Duplicate) (cond (nat_lt 0x20000 (at + size_of at s)) (Err kinds.TooLarge) (Ok w))) ws e in
    let spelled = steps (words_of found.0) (λ w. cond d (Err kinds.Duplicate) (cond (nat_lt 0x20000 (at + size_of at s)) (Err kinds.TooLarge) (Ok w))) ws found.2 in
    let fits = passed d (nat_lt 0x20000 (at + size_of at s)) spelled.0 ws spelled.2 in
    let below : at + size_of at s ≤ 0x20000 = ltb-false _ _ fits.0 in
    let words : words_of found.0 ≡ Ok ws = spelled.1 ∙ ap (λ (x : Expansion ℕ). Ok x) fits.1 in
    let long : length (bytes_of at s ws) ≡ size_of at s = sizes_agree ps at s found.0 ws found.1 words in
    omega (arith, below, long)

nothing_fits : (d : Bool) (at : ℕ) (bytes : List ℕ) → at ≤ 0x20000 → ◌≡◌ {A = Result (List ℕ) AsmKind} (cond d (Err kinds.Duplicate) (Ok [])) (Ok bytes) → at + length bytes ≤ 0x20000
nothing_fits true at bytes le e = absurd cc
nothing_fits false at bytes le e = let none : bytes ≡ [] = cc in rw none (omega arith)

said_fits : (ps : List Location) (at : ℕ) (d : Bool) (o : Option Said) (bytes : List ℕ) → at ≤ 0x20000 → said_bytes ps at d o ≡ Ok bytes → at + length bytes ≤ 0x20000
said_fits ps at d None bytes le e = nothing_fits d at bytes le e
said_fits ps at d (Some s) bytes le e =
    let found = steps (checked ps at d s) (λ w. Ok (bytes_of at s w)) bytes e in
    let same : bytes_of at s found.0 ≡ bytes = cc found.2 in
    let fits = statement_fits ps at d s found.0 found.1 in
    subst (λ (x : List ℕ). at + length x ≤ 0x20000) same fits

line_fits : (ps : List Location) (at n : ℕ) (t : List ℕ) (bytes : List ℕ) → at ≤ 0x20000 → line_bytes ps at n t ≡ Ok bytes → at + length bytes ≤ 0x20000
unfolding line_bytes
line_fits ps at n t bytes le e =
    let found = steps (statement_of (body_of t)) (said_bytes ps at (is_duplicate ps n (labels_of t))) bytes e in
    said_fits ps at (is_duplicate ps n (labels_of t)) found.0 bytes le found.2

unlocated : (n : ℕ) (r : Result (List ℕ) AsmKind) (bytes : List ℕ) → located n r ≡ Ok bytes → r ≡ Ok bytes
unlocated n (Ok x) bytes e = cc
unlocated n (Err k) bytes e = absurd cc

bytes_fit : (ps : List Location) (ts : List (List ℕ)) (at n : ℕ) (bytes : List ℕ) → at ≤ 0x20000 → bytes_from ps at n ts ≡ Ok bytes → at + length bytes ≤ 0x20000
unfolding bytes_from
bytes_fit ps [] at n bytes le e = let none : bytes ≡ [] = cc in rw none (omega arith)
bytes_fit ps (t ∷ ts) at n bytes le e =
    let here = steps (located n (line_bytes ps at n t)) (λ head. bytes_from ps (at + length head) (n + 1) ts >>= λ rest. Ok (head ++ rest)) bytes e in
    let rest = steps (bytes_from ps (at + length here.0) (n + 1) ts) (λ rest. Ok (here.0 ++ rest)) bytes here.2 in
    let below = line_fits ps at n t here.0 le (unlocated n (line_bytes ps at n t) here.0 here.1) in
    let all = bytes_fit ps ts (at + length here.0) (n + 1) rest.0 below rest.1 in
    let whole : here.0 ++ rest.0 ≡ bytes = cc rest.2 in
    omega (arith, all, length-append here.0 rest.0, ap length whole)

-- ---- its image

abbrev bit : Bool → ℕ
bit b = cond b 1 0

bit-small : (b : Bool) → bit b ≤ 1
bit-small true = omega arith
bit-small false = omega arith

count_bound : (p : ℕ → Bool) (n a : ℕ) → count_by p (range_with_len a n) ≤ n
count_bound p zero a = omega arith
count_bound p (suc n) a = omega (arith, sum_by-cons (λ (y : ℕ). bit (p y)) a (range_with_len (a + 1) n), bit-small (p a), count_bound p n (a + 1))

image_is_laid_out : (entry : ℕ) (bytes : List ℕ) → 0 < length bytes → length bytes ≤ 0x10000 → IsLaidOut (image_at entry bytes)
image_is_laid_out entry bytes some few =
    let s : Segment = record { address = 0x10000; size = length bytes; rights = record { read = true; write = true; execute = true }; bytes = bytes } in
    let pages : own_pages (extent_of s) [] ≤ (0x10000 + length bytes - 1) / 4096 + 1 - 16 = count_bound (λ page. not (list_any (touches page) [])) ((0x10000 + length bytes - 1) / 4096 + 1 - 16) 16 in
    record {
      some = omega arith;
      few = omega arith;
      in_range = All-cons IsInRange s [] (record { some = some; start = omega arith; end = omega arith; content = omega arith }) (All-nil IsInRange);
      apart = refl;
      pages = omega (arith, pages);
    }

pub lines_are_laid_out : (ts : List (List ℕ)) (image : Image) → image_of ts ≡ Ok image → All (λ (s : Segment). 0 < s.size) image.segments → IsLaidOut image
lines_are_laid_out ts image e some =
    let found = steps (bytes_from (places_of ts) 0x10000 1 ts) (λ bytes. Ok (image_at (entry_of (places_of ts)) bytes)) image e in
    let same : image_at (entry_of (places_of ts)) found.0 ≡ image = cc found.2 in
    let fits = bytes_fit (places_of ts) ts 0x10000 1 found.0 (omega arith) found.1 in
    let there : All (λ (s : Segment). 0 < s.size) (image_at (entry_of (places_of ts)) found.0).segments = subst (λ (i : Image). All (λ (s : Segment). 0 < s.size) i.segments) (sym same) some in
    let above = All-head (λ (s : Segment). 0 < s.size) _ [] there in
    subst IsLaidOut same (image_is_laid_out (entry_of (places_of ts)) found.0 above (omega (arith, fits)))

pub listing_is_laid_out : (text : List ℕ) (image : Image) → listing_of text ≡ Ok image → All (λ (s : Segment). 0 < s.size) image.segments → IsLaidOut image
unfolding listing_of
listing_is_laid_out text image e some = lines_are_laid_out (slice_split (λ b. b == 10) text) image e some
