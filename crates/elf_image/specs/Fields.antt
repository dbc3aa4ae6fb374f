-- Numbers in a file: the lowest byte first, as e_ident[EI_DATA] = ELFDATA2LSB says (gABI, "Data Representation").
use Rattle.std.specs.Prelude.{ℕ, List, [], ◌∷◌, ◌++◌, drop}
use Rattle.byteorder.specs.Endian.{little_number, little_bytes}
use Rattle.elf_image.specs.declared.fields.Field.{Field}
use Rattle.elf_image.specs.declared.fields.Field.TheVariants.{Byte, Half, Word, Double}

-- the number of n bytes at an offset
unfoldable pub number_at : ℕ → ℕ → List ℕ → ℕ
number_at n offset bytes = little_number n (drop offset bytes)

-- the bytes of a field: 1, 2, 4 or 8 of them
abbrev pub field_bytes : Field → List ℕ
field_bytes (Byte value) = little_bytes 1 value
field_bytes (Half value) = little_bytes 2 value
field_bytes (Word value) = little_bytes 4 value
field_bytes (Double value) = little_bytes 8 value

-- the bytes of fields that stand one after the other
abbrev pub fields_bytes : List Field → List ℕ
fields_bytes [] = []
fields_bytes (f ∷ fs) = field_bytes f ++ fields_bytes fs
