-- A whole listing: its labels, its bytes, or its first fault.
use Rattle.std.specs.Prelude.{ℕ, ◌+◌, Bool, true, false, ◌||◌, List, [], ◌∷◌, ◌++◌, length, map, Option, Some, None, Result, Ok, Err, nat_lt, unwrap_or, codes, ◌==◌, if◌then◌else◌}
use Rattle.std.specs.List.{list_any, slice_split}
use Rattle.elf_image.specs.declared.image.Image.{Image}
use Rattle.rv_asm.specs.declared.fault.AsmKind.{AsmKind}
use Rattle.rv_asm.specs.declared.fault.AsmKind.TheVariants as kinds
use Rattle.rv_asm.specs.declared.fault.AsmFault.{AsmFault}
use Rattle.rv_asm.specs.declared.code.Expansion.{Expansion}
use Rattle.rv_syntax.specs.Text.{is_text}
use Rattle.rv_syntax.specs.Statements.{Said}
use Rattle.rv_asm.specs.Lines.{labels_of, body_of, statement_of, next_at}
use Rattle.rv_asm.specs.Codes.{◌>>=◌, Location, place_named, address_of, size_of, instructions_of, words_of, bytes_of}

-- the number of a kind, as programs show it
abbrev pub kind_number : AsmKind → ℕ
kind_number kinds.Mnemonic = 1
kind_number kinds.Operand = 2
kind_number kinds.Range = 3
kind_number kinds.Label = 4
kind_number kinds.Duplicate = 5
kind_number kinds.TooLarge = 6
kind_number kinds.Memory = 7

-- ---- labels

abbrev pub places_at : ℕ → ℕ → List (List ℕ) → List Location
places_at at line names = map (λ n. record { name = n; address = at; line = line }) names

-- the labels of the lines from number n on: each stands where its line begins, which is behind the statements before it
unfoldable pub places : ℕ → ℕ → List (List ℕ) → List Location
places at n [] = []
places at n (t ∷ ts) = places_at at n (labels_of t) ++ places (next_at at (body_of t)) (n + 1) ts

abbrev pub is_earlier : Option Location → ℕ → Bool
is_earlier None n = false
is_earlier (Some p) n = nat_lt p.line n

-- a name stands twice
abbrev pub repeats : List (List ℕ) → Bool
repeats [] = false
repeats (w ∷ ws) = list_any (is_text w) ws || repeats ws

-- a label of line n stands on an earlier line, or twice on this one
abbrev pub is_duplicate : List Location → ℕ → List (List ℕ) → Bool
is_duplicate ps n names = list_any (λ w. is_earlier (place_named ps w) n) names || repeats names

-- ---- bytes

-- the words of a statement, or its first fault in the order of the kinds; an image ends at 0x20000 at the latest
abbrev pub checked : List Location → ℕ → Bool → Said → Result (Expansion ℕ) AsmKind
checked ps at duplicate s = do
  insts ← instructions_of ps at s
  words ← words_of insts
  if duplicate then Err kinds.Duplicate
      else (if nat_lt 0x20000 (at + size_of at s) then Err kinds.TooLarge else Ok words)

-- the bytes of what a line says
abbrev pub said_bytes : List Location → ℕ → Bool → Option Said → Result (List ℕ) AsmKind
said_bytes ps at duplicate None = if duplicate then Err kinds.Duplicate else Ok []
said_bytes ps at duplicate (Some s) = do
  words ← checked ps at duplicate s
  Ok (bytes_of at s words)

unfoldable pub line_bytes : List Location → ℕ → ℕ → List ℕ → Result (List ℕ) AsmKind
line_bytes ps at n t = do
  s ← statement_of (body_of t)
  said_bytes ps at (is_duplicate ps n (labels_of t)) s

abbrev pub located : {A : Type 0} → ℕ → Result A AsmKind → Result A AsmFault
located n (Ok x) = Ok x
located n (Err k) = Err (record { line = n; kind = k })

-- the bytes of the lines from number n on, which begin at an address
unfoldable pub bytes_from : List Location → ℕ → ℕ → List (List ℕ) → Result (List ℕ) AsmFault
bytes_from ps at n [] = Ok []
bytes_from ps at n (t ∷ ts) = do
  bytes ← located n (line_bytes ps at n t)
  rest ← bytes_from ps (at + length bytes) (n + 1) ts
  Ok (bytes ++ rest)

-- bytes that stand before others
abbrev pub with_front : {E : Type 0} → List ℕ → Result (List ℕ) E → Result (List ℕ) E
with_front front r = r >>= λ bytes. Ok (front ++ bytes)

-- ---- the image

-- where the image begins
abbrev pub start : ℕ
start = 0x10000

abbrev pub places_of : List (List ℕ) → List Location
places_of ts = places start 1 ts

abbrev pub entry_of : List Location → ℕ
entry_of ps = unwrap_or (address_of ps (codes "_start")) start

-- one segment at 0x10000, which may be read, written and executed
abbrev pub image_at : ℕ → List ℕ → Image
image_at entry bytes = record {
  entry = entry;
  segments = record {
    address = start;
    size = length bytes;
    rights = record { read = true; write = true; execute = true };
    bytes = bytes;
  } ∷ [];
}

-- the image of lines, or the first faulty line and its first fault
abbrev pub image_of : List (List ℕ) → Result Image AsmFault
image_of ts = bytes_from (places_of ts) start 1 ts >>= λ bytes. Ok (image_at (entry_of (places_of ts)) bytes)

-- the image of a text
unfoldable pub listing_of : List ℕ → Result Image AsmFault
listing_of text = image_of (slice_split (λ b. b == 10) text)
