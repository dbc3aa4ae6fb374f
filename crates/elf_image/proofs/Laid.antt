-- The image of a file without a fault is laid out.
use Rattle.std.proofs.Common.{◌≡◌, ℕ, zero, suc, ◌+◌, ◌<◌, ◌≤◌, Bool, true, false, cond, ◌||◌, ◌&&◌, List, [], ◌∷◌, length, take, drop, map, eqb, nat_lt, refl, sym, ap, ◌∙◌, subst, arith}
use Rattle.std.specs.Prelude.{All}
use Rattle.std.specs.List.{list_any}
use Rattle.std.proofs.lemmas.List.{length-map}
use Rattle.std.proofs.lemmas.List.Elements.{All-nil, All-cons}
use Rattle.std.proofs.lemmas.Bool.{ltb-false, ltb-true}
use Rattle.elf_image.specs.declared.headers.ProgramHeader.{ProgramHeader}
use Rattle.elf_image.specs.declared.layout.Extent.{Extent}
use Rattle.elf_image.specs.Headers.{headers_from, is_counted, program_header_at, extents}
use Rattle.elf_image.specs.Fields.{number_at}
use Rattle.elf_image.specs.Layout.{any_share, are_too_large, is_outside, page_count}
use Rattle.elf_image.specs.Checks.{exceeds}
use Rattle.elf_image.specs.Images.{segment_of, extent_of, IsInRange, IsLaidOut}

none_of : (x y : Bool) → (x || y) ≡ false → (x ≡ false) × (y ≡ false)
none_of true y e = absurd cc
none_of false y e = (refl, e)

both_of : (x y : Bool) → (x && y) ≡ true → (x ≡ true) × (y ≡ true)
both_of true y e = (refl, e)
both_of false y e = absurd cc

-- each header that counts has memory
abbrev HasMemory : List ProgramHeader → Type 0
HasMemory [] = Unit {0}
HasMemory (h ∷ hs) = (0 < h.extent.size) × HasMemory hs

choose_memory : (b : Bool) (h : ProgramHeader) (hs : List ProgramHeader) → (b ≡ true → 0 < h.extent.size) → HasMemory hs → HasMemory (cond b (h ∷ hs) hs)
choose_memory true h hs some rest = (some refl, rest)
choose_memory false h hs some rest = rest

headers_have_memory : (bytes : List ℕ) (n at : ℕ) → HasMemory (headers_from bytes at n)
unfolding headers_from
headers_have_memory bytes zero at = tt
headers_have_memory bytes (suc n) at =
    choose_memory (is_counted bytes at) (program_header_at bytes at) (headers_from bytes (at + 56) n)
    (λ e. ltb-true _ _ ((both_of (eqb (number_at 4 at bytes) 1) (nat_lt 0 (number_at 8 (at + 40) bytes)) e).1)) (headers_have_memory bytes n (at + 56))

choose_few : (b : Bool) (h : ProgramHeader) (hs : List ProgramHeader) (n : ℕ) → length hs ≤ n → length (cond b (h ∷ hs) hs) ≤ suc n
choose_few true h hs n le = omega arith
choose_few false h hs n le = omega arith

headers_are_few : (bytes : List ℕ) (n at : ℕ) → length (headers_from bytes at n) ≤ n
unfolding headers_from
headers_are_few bytes zero at = omega arith
headers_are_few bytes (suc n) at = choose_few (is_counted bytes at) (program_header_at bytes at) (headers_from bytes (at + 56) n) n (headers_are_few bytes n (at + 56))

length-take : {X : Type 0} (n : ℕ) (xs : List X) → length (take n xs) ≤ n
length-take zero xs = omega arith
length-take (suc n) [] = omega arith
length-take (suc n) (x ∷ xs) = let e = length-take n xs in omega arith

segment_in_range : (bytes : List ℕ) (h : ProgramHeader) → 0 < h.extent.size → exceeds h ≡ false → is_outside h.extent ≡ false → IsInRange (segment_of bytes h)
segment_in_range bytes h some fits inside =
    let ends = none_of (nat_lt h.extent.address 0x1000) (nat_lt 0x2000000000 (h.extent.address + h.extent.size)) inside in
    let content : h.file_size ≤ h.extent.size = ltb-false _ _ fits in
    let cut = length-take h.file_size (drop h.offset bytes) in
    record { some = some; start = ltb-false _ _ ends.0; end = ltb-false _ _ ends.1; content = omega arith }

segments_in_range : (bytes : List ℕ) (hs : List ProgramHeader) → HasMemory hs → list_any exceeds hs ≡ false → list_any is_outside (extents hs) ≡ false → All IsInRange (map (segment_of bytes) hs)
segments_in_range bytes [] some fits inside = All-nil IsInRange
segments_in_range bytes (h ∷ hs) some fits inside =
    let f = none_of (exceeds h) (list_any exceeds hs) fits in
    let i = none_of (is_outside h.extent) (list_any is_outside (extents hs)) inside in
    All-cons IsInRange (segment_of bytes h) (map (segment_of bytes) hs) (segment_in_range bytes h some.0 f.0 i.0) (segments_in_range bytes hs some.1 f.1 i.1)

same_extents : (bytes : List ℕ) (hs : List ProgramHeader) → map extent_of (map (segment_of bytes) hs) ≡ extents hs
same_extents bytes [] = refl
same_extents bytes (h ∷ hs) = ap (λ (es : List Extent). h.extent ∷ es) (same_extents bytes hs)

length_not_zero : (n : ℕ) → eqb n 0 ≡ false → 0 < n
length_not_zero zero e = absurd cc
length_not_zero (suc n) e = omega arith

-- what the checks say of a file is what its image keeps
pub laid_out : (bytes : List ℕ) (count at entry : ℕ) (hs : List ProgramHeader) → hs ≡ headers_from bytes at count → count ≤ 64 → eqb (length hs) 0 ≡ false → list_any exceeds hs ≡ false → any_share (extents hs) ≡ false
    → are_too_large (extents hs) ≡ false → IsLaidOut (record { entry = entry; segments = map (segment_of bytes) hs })
unfolding are_too_large
laid_out bytes count at entry hs is few some fits apart small =
    let sizes = none_of (list_any is_outside (extents hs)) (nat_lt 8192 (page_count (extents hs))) small in
    let same = same_extents bytes hs in
    let long = length-map hs (segment_of bytes) in
    let memory : HasMemory hs = subst HasMemory (sym is) (headers_have_memory bytes count at) in
    let fewer : length hs ≤ count = subst (λ (xs : List ProgramHeader). length xs ≤ count) (sym is) (headers_are_few bytes count at) in
    let above = length_not_zero (length hs) some in
    record {
      some = omega arith;
      few = omega arith;
      in_range = segments_in_range bytes hs memory fits sizes.0;
      apart = ap any_share same ∙ apart;
      pages = let at_most : page_count (extents hs) ≤ 8192 = ltb-false _ _ sizes.1 in rw same at_most;
    }
