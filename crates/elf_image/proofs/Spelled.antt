-- Numbers in the bytes of fields.
use Rattle.std.proofs.Common.{◌≡◌, ℕ, zero, suc, ◌+◌, ◌%◌, ◌^◌, ◌<◌, List, [], ◌∷◌, ◌++◌, length, get_or, take, refl, ap, ◌∙◌, append_assoc, arith, length-append}
use Rattle.std.proofs.Math.Seq.{drop-append-add}
use Rattle.byteorder.specs.Numbers.{little_from-bytes, length-bytes_low_first}
use Rattle.elf_image.specs.declared.fields.Field.{Field}
use Rattle.elf_image.specs.declared.fields.Field.TheVariants.{Byte, Half, Word, Double}
use Rattle.elf_image.specs.Fields.{number_at, field_bytes, fields_bytes}

abbrev pub width : Field → ℕ
width (Byte x) = 1
width (Half x) = 2
width (Word x) = 4
width (Double x) = 8

abbrev pub number : Field → ℕ
number (Byte x) = x
number (Half x) = x
number (Word x) = x
number (Double x) = x

abbrev pub widths : List Field → ℕ
widths [] = 0
widths (f ∷ fs) = width f + widths fs

length-field_bytes : (f : Field) → length (field_bytes f) ≡ width f
length-field_bytes (Byte x) = length-bytes_low_first 0 1 x
length-field_bytes (Half x) = length-bytes_low_first 0 2 x
length-field_bytes (Word x) = length-bytes_low_first 0 4 x
length-field_bytes (Double x) = length-bytes_low_first 0 8 x

pub length-fields_bytes : (fs : List Field) → length (fields_bytes fs) ≡ widths fs
length-fields_bytes [] = refl
length-fields_bytes (f ∷ fs) =
    let e = length-append (field_bytes f) (fields_bytes fs) in
    let a = length-field_bytes f in
    let b = length-fields_bytes fs in
    omega arith

-- what stands behind some bytes
pub number_at-append : (n k : ℕ) (front rest : List ℕ) (at : ℕ) → length front ≡ at → number_at n (at + k) (front ++ rest) ≡ number_at n k rest
unfolding number_at
number_at-append n k front rest at is = rw (← is, drop-append-add front rest k) refl

number_at-bytes : (f : Field) (rest : List ℕ) → number_at (width f) 0 (field_bytes f ++ rest) ≡ number f % 256 ^ width f
unfolding number_at
number_at-bytes (Byte x) rest = little_from-bytes 1 0 x rest ∙ (omega arith)
number_at-bytes (Half x) rest = little_from-bytes 2 0 x rest ∙ (omega arith)
number_at-bytes (Word x) rest = little_from-bytes 4 0 x rest ∙ (omega arith)
number_at-bytes (Double x) rest = little_from-bytes 8 0 x rest ∙ (omega arith)

-- the field at a place is the number at the offset that the widths before it make
pub number_at-field : (i : ℕ) (fs : List Field) (d : Field) (rest : List ℕ) → i < length fs
    → number_at (width (get_or fs i d)) (widths (take i fs)) (fields_bytes fs ++ rest) ≡ number (get_or fs i d) % 256 ^ width (get_or fs i d)
number_at-field i [] d rest lt = absurd (omega arith)
number_at-field zero (f ∷ fs) d rest lt = ap (number_at (width f) 0) (append_assoc (field_bytes f) (fields_bytes fs) rest) ∙ number_at-bytes f (fields_bytes fs ++ rest)
number_at-field (suc i) (f ∷ fs) d rest lt =
    ap (number_at (width (get_or fs i d)) (width f + widths (take i fs))) (append_assoc (field_bytes f) (fields_bytes fs) rest)
    ∙ number_at-append (width (get_or fs i d)) (widths (take i fs)) (field_bytes f) (fields_bytes fs ++ rest) (width f) (length-field_bytes f)
    ∙ number_at-field i fs d rest (omega arith)

-- the same behind some bytes
pub number_at-table : (i : ℕ) (fs : List Field) (d : Field) (front rest : List ℕ) (at : ℕ) → length front ≡ at → i < length fs
    → number_at (width (get_or fs i d)) (at + widths (take i fs)) (front ++ (fields_bytes fs ++ rest)) ≡ number (get_or fs i d) % 256 ^ width (get_or fs i d)
number_at-table i fs d front rest at len lt = number_at-append (width (get_or fs i d)) (widths (take i fs)) front (fields_bytes fs ++ rest) at len ∙ number_at-field i fs d rest lt
