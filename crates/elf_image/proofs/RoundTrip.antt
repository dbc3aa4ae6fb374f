-- The file of an image is read as that image.
use Rattle.std.proofs.Common.{◌≡◌, ℕ, suc, ◌+◌, ◌*◌, ◌%◌, ◌^◌, ◌<◌, ◌≤◌, Bool, true, false, List, [], ◌∷◌, ◌++◌, length, get_or, take, drop, map, eqb, nat_lt, refl, sym, ap, ◌∙◌, subst, append_assoc, arith, length-append, add-zero}
use Rattle.std.specs.Prelude.{All}
use Rattle.std.specs.List.{list_any}
use Rattle.std.proofs.Math.Nat.{mod-eq_of_lt}
use Rattle.std.proofs.Math.Seq.{drop-append_seam, take-append_seam}
use Rattle.std.proofs.lemmas.Bool.{le-ltb, lt-ltb, ne_eqb}
use Rattle.std.proofs.lemmas.List.{at_drop_more}
use Rattle.std.proofs.lemmas.List.Elements.{All-head, All-tail}
use Rattle.elf_image.specs.declared.fields.Field.TheVariants.{Byte}
use Rattle.elf_image.specs.declared.headers.ProgramHeader.{ProgramHeader}
use Rattle.elf_image.specs.declared.layout.Extent.{Extent}
use Rattle.elf_image.specs.declared.image.Rights.{Rights}
use Rattle.elf_image.specs.declared.image.Segment.{Segment}
use Rattle.elf_image.specs.declared.image.Image.{Image}
use Rattle.elf_image.specs.Fields.{number_at, fields_bytes}
use Rattle.elf_image.specs.Headers.{headers_from, is_counted, program_header_at, program_headers, extents, header_count}
use Rattle.elf_image.specs.Layout.{any_share, are_too_large, is_outside, page_count}
use Rattle.elf_image.specs.Checks.{has_no_magic, is_of_another_machine, is_no_program, passes_end, exceeds}
use Rattle.elf_image.specs.Images.{rights_of, segment_of, extent_of, image_of, IsElf, IsInRange, IsLaidOut}
use Rattle.elf_image.specs.Files.{flags_of, header_fields, segment_fields, table_of, contents_of, contents_offset, file_of}
use Rattle.elf_image.proofs.Lists.{all_pass}
use Rattle.elf_image.proofs.Spelled.{number_at-field, number_at-table, length-fields_bytes}

-- one more program header behind those written so far
pub table_next : (ss : List Segment) (i offset : ℕ) (s : Segment) (front out total : List ℕ) → i < length ss → s ≡ get_or ss i s → out ≡ front ++ fields_bytes (segment_fields offset s)
    → front ++ table_of offset (drop i ss) ≡ total → out ++ table_of ((offset + length s.bytes) % 2 ^ 64) (drop (i + 1) ss) ≡ total
table_next ss i offset s front out total lt is out_is so_far =
    let step = at_drop_more (table_of offset) ss i s lt in
    let here : table_of offset (drop i ss) ≡ fields_bytes (segment_fields offset s) ++ table_of ((offset + length s.bytes) % 2 ^ 64) (drop (i + 1) ss) = step ∙ rw (← is) refl in
    let e = append_assoc front (fields_bytes (segment_fields offset s)) (table_of ((offset + length s.bytes) % 2 ^ 64) (drop (i + 1) ss)) in
    ap (λ (x : List ℕ). x ++ table_of ((offset + length s.bytes) % 2 ^ 64) (drop (i + 1) ss)) out_is ∙ e ∙ ap (λ (x : List ℕ). front ++ x) (sym here) ∙ so_far

-- ---- one program header

rights_of-flags_of : (r : Rights) → rights_of (flags_of r) ≡ r
rights_of-flags_of r = bits r.read r.write r.execute
  where
    bits : (x y z : Bool) → rights_of (flags_of (record { read = x; write = y; execute = z })) ≡ record { read = x; write = y; execute = z }
    bits true true true = refl
    bits true true false = refl
    bits true false true = refl
    bits true false false = refl
    bits false true true = refl
    bits false true false = refl
    bits false false true = refl
    bits false false false = refl

flags_of-small : (r : Rights) → flags_of r < 8
flags_of-small r = bits r.read r.write r.execute
  where
    bits : (x y z : Bool) → flags_of (record { read = x; write = y; execute = z }) < 8
    bits true true true = omega arith
    bits true true false = omega arith
    bits true false true = omega arith
    bits true false false = omega arith
    bits false true true = omega arith
    bits false true false = omega arith
    bits false false true = omega arith
    bits false false false = omega arith

-- the header of a segment whose content stands at an offset
abbrev header_for : ℕ → Segment → ProgramHeader
header_for offset s = record { flags = flags_of s.rights; offset = offset; file_size = length s.bytes; extent = extent_of s }

abbrev headers_for : ℕ → List Segment → List ProgramHeader
headers_for offset [] = []
headers_for offset (s ∷ ss) = header_for offset s ∷ headers_for (offset + length s.bytes) ss

-- the bytes of all contents
abbrev content_size : List Segment → ℕ
content_size [] = 0
content_size (s ∷ ss) = length s.bytes + content_size ss

-- a program header is read as it was written
pub record HeaderIsRead (bytes : List ℕ) (at offset : ℕ) (s : Segment) : Type 0 where
  pub counted : is_counted bytes at ≡ true
  pub header : program_header_at bytes at ≡ header_for offset s

header_is_read : (front rest : List ℕ) (at offset : ℕ) (s : Segment) → length front ≡ at → IsInRange s → offset < 2 ^ 64 → HeaderIsRead (front ++ (fields_bytes (segment_fields offset s) ++ rest)) at offset s
header_is_read front rest at offset s len range fits =
    let fs = segment_fields offset s in
    let bytes = front ++ (fields_bytes fs ++ rest) in
    let in_range : s.size < 2 ^ 64 = omega arith in
    let type : number_at 4 at bytes ≡ 1 = ap (λ (k : ℕ). number_at 4 k bytes) (sym (add-zero at)) ∙ number_at-table 0 fs (Byte 0) front rest at len (omega arith) in
    let flags : number_at 4 (at + 4) bytes ≡ flags_of s.rights = number_at-table 1 fs (Byte 0) front rest at len (omega arith) ∙ mod-eq_of_lt (omega (arith, flags_of-small s.rights)) in
    let place : number_at 8 (at + 8) bytes ≡ offset = number_at-table 2 fs (Byte 0) front rest at len (omega arith) ∙ mod-eq_of_lt fits in
    let address : number_at 8 (at + 16) bytes ≡ s.address = number_at-table 3 fs (Byte 0) front rest at len (omega arith) ∙ mod-eq_of_lt (omega arith) in
    let stored : number_at 8 (at + 32) bytes ≡ length s.bytes = number_at-table 5 fs (Byte 0) front rest at len (omega arith) ∙ mod-eq_of_lt (omega arith) in
    let size : number_at 8 (at + 40) bytes ≡ s.size = number_at-table 6 fs (Byte 0) front rest at len (omega arith) ∙ mod-eq_of_lt in_range in
    let some : nat_lt 0 s.size ≡ true = lt-ltb 0 s.size range.some in
    record { counted = rw (type, size, some) refl; header = rw (flags, place, address, stored, size) refl }

-- ---- all program headers

length-segment_fields : (offset : ℕ) (s : Segment) → length (fields_bytes (segment_fields offset s)) ≡ 56
length-segment_fields offset s = length-fields_bytes (segment_fields offset s)

headers_are_read : (ss : List Segment) (bytes front tail : List ℕ) (at offset : ℕ) → bytes ≡ front ++ (table_of offset ss ++ tail) → length front ≡ at → All IsInRange ss → offset + content_size ss < 2 ^ 64
    → headers_from bytes at (length ss) ≡ headers_for offset ss
unfolding headers_from
headers_are_read [] bytes front tail at offset is len range fits = refl
headers_are_read (s ∷ ss) bytes front tail at offset is len range fits =
    let here = fields_bytes (segment_fields offset s) in
    let next = offset + length s.bytes in
    let wrap : next % 2 ^ 64 ≡ next = mod-eq_of_lt (omega arith) in
    let split : bytes ≡ front ++ (here ++ (table_of next ss ++ tail)) = is ∙ rw wrap (ap (λ (x : List ℕ). front ++ x) (append_assoc here (table_of next ss) tail)) in
    let one : HeaderIsRead bytes at offset s = subst (λ (x : List ℕ). HeaderIsRead x at offset s) (sym split) (header_is_read front (table_of next ss ++ tail) at offset s len (All-head IsInRange s ss range) (omega arith)) in
    let length_is : length (front ++ here) ≡ at + 56 = omega (arith, length-append front here, length-segment_fields offset s) in
    let rest = headers_are_read ss bytes (front ++ here) tail (at + 56) next (split ∙ sym (append_assoc front here (table_of next ss ++ tail))) length_is (All-tail IsInRange s ss range) (omega arith) in
    rw (one.counted, one.header, rest) refl

length-headers_for : (offset : ℕ) (ss : List Segment) → length (headers_for offset ss) ≡ length ss
length-headers_for offset [] = refl
length-headers_for offset (s ∷ ss) = ap suc (length-headers_for (offset + length s.bytes) ss)

extents-headers_for : (offset : ℕ) (ss : List Segment) → extents (headers_for offset ss) ≡ map extent_of ss
extents-headers_for offset [] = refl
extents-headers_for offset (s ∷ ss) = ap (λ (es : List Extent). extent_of s ∷ es) (extents-headers_for (offset + length s.bytes) ss)

none_passes_end : (bytes : List ℕ) (ss : List Segment) (offset : ℕ) → offset + content_size ss ≤ length bytes → list_any (passes_end bytes) (headers_for offset ss) ≡ false
none_passes_end bytes [] offset fits = refl
none_passes_end bytes (s ∷ ss) offset fits =
    let one : nat_lt (length bytes) (offset + length s.bytes) ≡ false = le-ltb _ _ (omega arith) in
    rw (one, none_passes_end bytes ss (offset + length s.bytes) (omega arith)) refl

none_exceeds : (ss : List Segment) (offset : ℕ) → All IsInRange ss → list_any exceeds (headers_for offset ss) ≡ false
none_exceeds [] offset range = refl
none_exceeds (s ∷ ss) offset range =
    let here = All-head IsInRange s ss range in
    let one : nat_lt s.size (length s.bytes) ≡ false = le-ltb _ _ here.content in
    rw (one, none_exceeds ss (offset + length s.bytes) (All-tail IsInRange s ss range)) refl

none_outside : (ss : List Segment) → All IsInRange ss → list_any is_outside (map extent_of ss) ≡ false
none_outside [] range = refl
none_outside (s ∷ ss) range =
    let here = All-head IsInRange s ss range in
    let start : nat_lt s.address 0x1000 ≡ false = le-ltb _ _ here.start in
    let end : nat_lt 0x2000000000 (s.address + s.size) ≡ false = le-ltb _ _ here.end in
    rw (start, end, none_outside ss (All-tail IsInRange s ss range)) refl

-- ---- contents

segments_are_read : (ss : List Segment) (bytes front : List ℕ) (offset : ℕ) → bytes ≡ front ++ contents_of ss → length front ≡ offset → map (segment_of bytes) (headers_for offset ss) ≡ ss
segments_are_read [] bytes front offset is len = refl
segments_are_read (s ∷ ss) bytes front offset is len =
    let behind : drop offset bytes ≡ s.bytes ++ contents_of ss = rw (← len, is) (drop-append_seam front (s.bytes ++ contents_of ss)) in
    let cut : take (length s.bytes) (drop offset bytes) ≡ s.bytes = rw behind (take-append_seam s.bytes (contents_of ss)) in
    let one : segment_of bytes (header_for offset s) ≡ s = rw (rights_of-flags_of s.rights, cut) refl in
    let length_is : length (front ++ s.bytes) ≡ offset + length s.bytes = omega (arith, length-append front s.bytes) in
    let rest = segments_are_read ss bytes (front ++ s.bytes) (offset + length s.bytes) (is ∙ sym (append_assoc front s.bytes (contents_of ss))) length_is in
    rw (one, rest) refl

length-contents_of : (ss : List Segment) → length (contents_of ss) ≡ content_size ss
length-contents_of [] = refl
length-contents_of (s ∷ ss) = omega (arith, length-append s.bytes (contents_of ss), length-contents_of ss)

length-table_of : (offset : ℕ) (ss : List Segment) → length (table_of offset ss) ≡ 56 * length ss
length-table_of offset [] = refl
length-table_of offset (s ∷ ss) =
    let next = (offset + length s.bytes) % 2 ^ 64 in
    omega (arith, length-append (fields_bytes (segment_fields offset s)) (table_of next ss), length-segment_fields offset s, length-table_of next ss)

content_size-small : (ss : List Segment) → All IsInRange ss → content_size ss ≤ 2 ^ 37 * length ss
content_size-small [] range = omega arith
content_size-small (s ∷ ss) range =
    let here = All-head IsInRange s ss range in
    let rest = content_size-small ss (All-tail IsInRange s ss range) in
    omega arith

-- ---- the ELF header

record ElfHeaderIsRead (bytes : List ℕ) (start count : ℕ) : Type 0 where
  magic : number_at 4 0 bytes ≡ 0x464c457f
  class : number_at 1 4 bytes ≡ 2
  encoding : number_at 1 5 bytes ≡ 1
  file_type : number_at 2 16 bytes ≡ 2
  machine : number_at 2 18 bytes ≡ 243
  start_is : number_at 8 24 bytes ≡ start
  table : number_at 8 32 bytes ≡ 64
  size : number_at 2 54 bytes ≡ 56
  count_is : number_at 2 56 bytes ≡ count

elf_header_is_read : (bytes rest : List ℕ) (start count : ℕ) → bytes ≡ fields_bytes (header_fields start count) ++ rest → start < 2 ^ 64 → count < 2 ^ 16 → ElfHeaderIsRead bytes start count
elf_header_is_read bytes rest start count is start_fits count_fits =
    let fs = header_fields start count in
    record {
      magic = ap (number_at 4 0) is ∙ number_at-field 0 fs (Byte 0) rest (omega arith);
      class = ap (number_at 1 4) is ∙ number_at-field 1 fs (Byte 0) rest (omega arith);
      encoding = ap (number_at 1 5) is ∙ number_at-field 2 fs (Byte 0) rest (omega arith);
      file_type = ap (number_at 2 16) is ∙ number_at-field 6 fs (Byte 0) rest (omega arith);
      machine = ap (number_at 2 18) is ∙ number_at-field 7 fs (Byte 0) rest (omega arith);
      start_is = ap (number_at 8 24) is ∙ number_at-field 9 fs (Byte 0) rest (omega arith) ∙ mod-eq_of_lt start_fits;
      table = ap (number_at 8 32) is ∙ number_at-field 10 fs (Byte 0) rest (omega arith);
      size = ap (number_at 2 54) is ∙ number_at-field 14 fs (Byte 0) rest (omega arith);
      count_is = ap (number_at 2 56) is ∙ number_at-field 15 fs (Byte 0) rest (omega arith) ∙ mod-eq_of_lt count_fits;
    }

magic_passes : (bytes : List ℕ) → 4 ≤ length bytes → number_at 4 0 bytes ≡ 0x464c457f → has_no_magic bytes ≡ false
unfolding has_no_magic
magic_passes bytes long is = let one : nat_lt (length bytes) 4 ≡ false = le-ltb _ _ long in rw (one, is) refl

machine_passes : (bytes : List ℕ) → number_at 1 4 bytes ≡ 2 → number_at 1 5 bytes ≡ 1 → number_at 2 18 bytes ≡ 243 → is_of_another_machine bytes ≡ false
unfolding is_of_another_machine
machine_passes bytes class encoding machine = rw (class, encoding, machine) refl

program_passes : (bytes : List ℕ) (count : ℕ) → number_at 2 16 bytes ≡ 2 → number_at 2 54 bytes ≡ 56 → number_at 2 56 bytes ≡ count → 0 < count → is_no_program bytes ≡ false
unfolding is_no_program
program_passes bytes count type size count_is some = let one : nat_lt 0 count ≡ true = lt-ltb 0 count some in rw (type, size, count_is, one) refl

size_passes : (es : List Extent) → list_any is_outside es ≡ false → page_count es ≤ 8192 → are_too_large es ≡ false
unfolding are_too_large
size_passes es inside few = let one : nat_lt 8192 (page_count es) ≡ false = le-ltb _ _ few in rw (inside, one) refl

not_zero : (n : ℕ) → 0 < n → eqb n 0 ≡ false
not_zero n lt = ne_eqb n 0 (omega arith)

-- ---- the whole

pub file_is_read : (i : Image) (bytes : List ℕ) → bytes ≡ file_of i → i.entry < 2 ^ 64 → IsLaidOut i → IsElf bytes i
unfolding image_of file_of
file_is_read i bytes is entry_fits laid =
    let ss = i.segments in
    let n = length ss in
    let head = fields_bytes (header_fields i.entry (n % 2 ^ 16)) in
    let table = table_of (contents_offset ss) ss in
    let small = content_size-small ss laid.in_range in
    let count_small : n % 2 ^ 16 ≡ n = mod-eq_of_lt (omega arith) in
    let offset_small : contents_offset ss ≡ 64 + 56 * n = mod-eq_of_lt (omega arith) in
    let split : bytes ≡ head ++ (table ++ contents_of ss) = is ∙ append_assoc head table (contents_of ss) in
    let length-head : length head ≡ 64 = length-fields_bytes (header_fields i.entry (n % 2 ^ 16)) in
    let length-front : length (head ++ table) ≡ 64 + 56 * n = omega (arith, length-append head table, length-table_of (contents_offset ss) ss) in
    let long : length bytes ≡ 64 + 56 * n + content_size ss = omega (arith, ap length is, length-append (head ++ table) (contents_of ss), length-contents_of ss) in
    let read = elf_header_is_read bytes (table ++ contents_of ss) i.entry (n % 2 ^ 16) split entry_fits (omega arith) in
    let count : header_count bytes ≡ n = read.count_is ∙ count_small in
    let found : program_headers bytes ≡ headers_for (contents_offset ss) ss =
    rw (read.table, count) (headers_are_read ss bytes head (contents_of ss) 64 (contents_offset ss) split length-head laid.in_range (omega arith)) in
    let filled : extents (program_headers bytes) ≡ map extent_of ss = ap extents found ∙ extents-headers_for (contents_offset ss) ss in
    record {
      accepted = all_pass bytes (magic_passes bytes (omega arith) read.magic) (le-ltb _ _ (omega arith)) (machine_passes bytes read.class read.encoding read.machine)
          (program_passes bytes n read.file_type read.size count laid.some) (rw count (le-ltb _ _ laid.few))
          (rw (read.table, count) (le-ltb _ _ (omega arith)))
          (ap (λ (hs : List ProgramHeader). eqb (length hs) 0) found ∙ ap (λ (k : ℕ). eqb k 0) (length-headers_for (contents_offset ss) ss) ∙ not_zero n laid.some)
          (ap (list_any (passes_end bytes)) found ∙ none_passes_end bytes ss (contents_offset ss) (omega arith))
          (ap (list_any exceeds) found ∙ none_exceeds ss (contents_offset ss) laid.in_range)
          (ap any_share filled ∙ laid.apart)
          (ap are_too_large filled ∙ size_passes (map extent_of ss) (none_outside ss laid.in_range) laid.pages);
      image_is =
          let whole : map (segment_of bytes) (program_headers bytes) ≡ ss = ap (map (segment_of bytes)) found ∙ segments_are_read ss bytes (head ++ table) (contents_offset ss) is (omega arith) in
          rw (read.start_is, whole) refl;
    }
