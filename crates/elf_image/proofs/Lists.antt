-- Program headers one after the other, and a file that passes each check.
use Rattle.std.proofs.Common.{◌≡◌, ℕ, suc, ◌+◌, ◌-◌, ◌*◌, ◌<◌, ◌≤◌, Bool, true, false, cond, List, [], ◌∷◌, ◌++◌, length, eqb, nat_lt, Option, Some, None, refl, sym, ap, ◌∙◌, append_assoc, arith}
use Rattle.std.specs.List.{list_any}
use Rattle.std.proofs.lemmas.List.{append-nil}
use Rattle.elf_image.specs.declared.headers.ProgramHeader.{ProgramHeader}
use Rattle.elf_image.specs.Headers.{headers_from, is_counted, program_header_at, program_headers, extents, header_count, table_offset}
use Rattle.elf_image.specs.Layout.{any_share, are_too_large}
use Rattle.elf_image.specs.Checks.{has_no_magic, is_of_another_machine, is_no_program, passes_end, exceeds, checks, first_fault}

abbrev nothing : {X : Type 0} → Option X
nothing = None

some_chosen : {X : Type 0} (b : Bool) (x y : X) → Some x ≡ cond b (Some y) None → (b ≡ true) × (x ≡ y)
some_chosen true x y e = (refl, cc)
some_chosen false x y e = absurd cc

none_chosen : {X : Type 0} (b : Bool) (y : X) → nothing {X = X} ≡ cond b (Some y) None → b ≡ false
none_chosen true y e = absurd cc
none_chosen false y e = refl

-- a header that counts, behind those found so far
pub some_header : (bytes : List ℕ) (at count i : ℕ) (front total : List ProgramHeader) (h : ProgramHeader) → i < count → Some h ≡ cond (is_counted bytes at) (Some (program_header_at bytes at)) None
    → front ++ headers_from bytes at (count - i) ≡ total
    → (front ++ h ∷ []) ++ headers_from bytes (at + 56) (count - (i + 1)) ≡ total
unfolding headers_from
some_header bytes at count i front total h lt found so_far =
    let k : count - i ≡ suc (count - (i + 1)) = omega arith in
    let yes = some_chosen (is_counted bytes at) h (program_header_at bytes at) found in
    let one : front ++ headers_from bytes at (count - i) ≡ (front ++ program_header_at bytes at ∷ []) ++ headers_from bytes (at + 56) (count - (i + 1)) = rw (k, yes.0) (sym (append_assoc front (program_header_at bytes at ∷ []) (headers_from bytes (at + 56) (count - (i + 1))))) in
    ap (λ (x : ProgramHeader). (front ++ x ∷ []) ++ headers_from bytes (at + 56) (count - (i + 1))) yes.1 ∙ sym one ∙ so_far

-- a header that does not count
pub no_header : (bytes : List ℕ) (at count i : ℕ) (front total : List ProgramHeader) → i < count → None ≡ cond (is_counted bytes at) (Some (program_header_at bytes at)) None
    → front ++ headers_from bytes at (count - i) ≡ total
    → front ++ headers_from bytes (at + 56) (count - (i + 1)) ≡ total
unfolding headers_from
no_header bytes at count i front total lt found so_far =
    let k : count - i ≡ suc (count - (i + 1)) = omega arith in
    let no = none_chosen (is_counted bytes at) (program_header_at bytes at) found in
    let one : front ++ headers_from bytes at (count - i) ≡ front ++ headers_from bytes (at + 56) (count - (i + 1)) = rw (k, no) refl in
    sym one ∙ so_far

-- the last header is behind
pub all_headers : (bytes : List ℕ) (at count i : ℕ) (front total : List ProgramHeader) → count ≤ i → front ++ headers_from bytes at (count - i) ≡ total → front ≡ total
unfolding headers_from
all_headers bytes at count i front total le so_far =
    let k : count - i ≡ 0 = omega arith in
    let one : front ++ headers_from bytes at (count - i) ≡ front = rw k (append-nil front) in
    sym one ∙ so_far

-- a file that passes each check has no fault
pub all_pass : (bytes : List ℕ) → has_no_magic bytes ≡ false → nat_lt (length bytes) 64 ≡ false → is_of_another_machine bytes ≡ false → is_no_program bytes ≡ false → nat_lt 64 (header_count bytes) ≡ false
    → nat_lt (length bytes) (table_offset bytes + 56 * header_count bytes) ≡ false → eqb (length (program_headers bytes)) 0 ≡ false → list_any (passes_end bytes) (program_headers bytes) ≡ false
    → list_any exceeds (program_headers bytes) ≡ false → any_share (extents (program_headers bytes)) ≡ false → are_too_large (extents (program_headers bytes)) ≡ false → first_fault (checks bytes) ≡ None
all_pass bytes h1 h2 h3 h4 h5 h6 h7 h8 h9 h10 h11 = rw (h1, h2, h3, h4, h5, h6, h7, h8, h9, h10, h11) refl
