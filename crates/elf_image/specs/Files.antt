-- The file of an image: the ELF header, the program headers, the contents, one after the other.
use Rattle.std.specs.Prelude.{ℕ, ◌+◌, ◌*◌, ◌%◌, ◌^◌, List, [], ◌∷◌, ◌++◌, length, if◌then◌else◌}
use Rattle.elf_image.specs.declared.fields.Field.{Field}
use Rattle.elf_image.specs.declared.fields.Field.TheVariants.{Byte, Half, Word, Double}
use Rattle.elf_image.specs.declared.image.Rights.{Rights}
use Rattle.elf_image.specs.declared.image.Segment.{Segment}
use Rattle.elf_image.specs.declared.image.Image.{Image}
use Rattle.elf_image.specs.Fields.{fields_bytes}

-- p_flags: PF_X 1, PF_W 2, PF_R 4
abbrev pub flags_of : Rights → ℕ
flags_of r = (if r.execute then 1 else 0) + (if r.write then 2 else 0) + (if r.read then 4 else 0)

-- Elf64_Ehdr, of 64 bytes, for an entry and a number of program headers
abbrev pub header_fields : ℕ → ℕ → List Field
header_fields entry count =
    Word 0x464c457f ∷ Byte 2 ∷ Byte 1 ∷ Byte 1 ∷ Byte 0 ∷ Double 0
    ∷ Half 2 ∷ Half 243 ∷ Word 1
    ∷ Double entry ∷ Double 64 ∷ Double 0
    ∷ Word 0 ∷ Half 64 ∷ Half 56 ∷ Half count ∷ Half 0 ∷ Half 0 ∷ Half 0
    ∷ []

-- Elf64_Phdr, of 56 bytes, for a segment whose content stands at an offset: PT_LOAD, no physical address, no alignment
abbrev pub segment_fields : ℕ → Segment → List Field
segment_fields offset s =
    Word 1 ∷ Word (flags_of s.rights) ∷ Double offset ∷ Double s.address ∷ Double 0
    ∷ Double (length s.bytes) ∷ Double s.size ∷ Double 0
    ∷ []

-- the program headers of segments, whose contents follow each other from an offset of 64 bits on
abbrev pub table_of : ℕ → List Segment → List ℕ
table_of offset [] = []
table_of offset (s ∷ ss) = fields_bytes (segment_fields offset s) ++ table_of ((offset + length s.bytes) % 2 ^ 64) ss

abbrev pub contents_of : List Segment → List ℕ
contents_of [] = []
contents_of (s ∷ ss) = s.bytes ++ contents_of ss

-- where the contents begin
abbrev pub contents_offset : List Segment → ℕ
contents_offset ss = (64 + 56 * length ss) % 2 ^ 64

-- the file; a count over 65,535 keeps its low 16 bits
unfoldable pub file_of : Image → List ℕ
file_of i =
    (fields_bytes (header_fields i.entry (length i.segments % 2 ^ 16))
    ++ table_of (contents_offset i.segments) i.segments)
    ++ contents_of i.segments
