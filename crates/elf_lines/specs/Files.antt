-- The tables of a unit (DWARF 5, 6.2.4.1; DWARF 4, 6.2.4): directories and files by their numbers.
use Rattle.std.specs.Prelude.{ℕ, zero, suc, ◌+◌, ◌-◌, ◌*◌, Bool, true, false, not, ◌&&◌, List, [], ◌∷◌, length, drop, nat_lt, ◌==◌, if◌then◌else◌, Option, Some, None}
use Rattle.dwarf_data.specs.Reading.{◌>>=◌, number, cut, uleb128, behind_uleb128s, text_length, text}
use Rattle.elf_lines.specs.declared.fields.Header.{Header}
use Rattle.elf_lines.specs.declared.files.Strings.{Strings}
use Rattle.elf_lines.specs.declared.files.Format.{Format}
use Rattle.elf_lines.specs.declared.files.Entry.{Entry}
use Rattle.elf_lines.specs.Headers.{offset}

-- ---- what a file's strings, formats and entries hold

-- the strings that offsets are of: whether these have 8 bytes, .debug_line_str and .debug_str
pub record Pools : Type 0 where
  pub wide : Bool
  pub line_strings : List ℕ
  pub strings : List ℕ

abbrev pub pools : Strings → Pools
pools s = record { wide = s.wide; line_strings = s.line_strings.now; strings = s.strings.now }

-- how many attributes an entry has, and their kinds and forms
pub record Shape : Type 0 where
  pub count : ℕ
  pub pairs : List ℕ

abbrev pub shape : Format → Shape
shape f = record { count = f.count; pairs = f.pairs.now }

-- a path, given by the bytes that it begins, and the number of a directory
pub record Place : Type 0 where
  pub path : List ℕ
  pub directory : ℕ

abbrev pub place : Entry → Place
place e = record { path = e.path.now; directory = e.directory }

-- ---- attributes: a text, given by the bytes that it begins, or a number

-- a text that stands here
unfoldable pub string_at : List ℕ → Option (List ℕ × ℕ × List ℕ)
string_at bytes =
    if nat_lt (text_length bytes) (length bytes) then Some (bytes, 0, drop (text_length bytes + 1) bytes) else None

-- one that stands at an offset of these
unfoldable pub text_at : Bool → List ℕ → List ℕ → Option (List ℕ × ℕ × List ℕ)
text_at wide strings bytes = do
  n ← offset wide bytes
  Some (drop n.0 strings, 0, n.1)

unfoldable pub number_of : ℕ → List ℕ → Option (List ℕ × ℕ × List ℕ)
number_of size bytes = do
  n ← number size bytes
  Some ([], n.0, n.1)

unfoldable pub data_at : ℕ → List ℕ → Option (List ℕ × ℕ × List ℕ)
data_at size bytes = do
  d ← cut size bytes
  Some ([], 0, d.1)

unfoldable pub udata_at : List ℕ → Option (List ℕ × ℕ × List ℕ)
udata_at bytes = do
  n ← uleb128 bytes
  Some ([], n.0, n.1)

unfoldable pub block_at : List ℕ → Option (List ℕ × ℕ × List ℕ)
block_at bytes = do
  n ← uleb128 bytes
  data_at n.0 n.1

-- an attribute of a form (7.5.6): DW_FORM_data2 5, data4 6, data8 7, string 8, block 9, data1 0xb, strp 0xe, udata 0xf,
-- data16 0x1e, line_strp 0x1f
unfoldable pub attribute_at : Pools → ℕ → List ℕ → Option (List ℕ × ℕ × List ℕ)
attribute_at s form bytes =
    if form == 5 then number_of 2 bytes
    else if form == 6 then number_of 4 bytes
    else if form == 7 then number_of 8 bytes
    else if form == 8 then string_at bytes
    else if form == 9 then block_at bytes
    else if form == 0xb then number_of 1 bytes
    else if form == 0xe then text_at s.wide s.strings bytes
    else if form == 0xf then udata_at bytes
    else if form == 0x1e then data_at 16 bytes
    else if form == 0x1f then text_at s.wide s.line_strings bytes
    else None

-- ---- entries

-- DW_LNCT_path 1, DW_LNCT_directory_index 2
abbrev pub told : ℕ → List ℕ → ℕ → Place → Place
told kind text number p =
    if kind == 1 then record { path = text; directory = p.directory }
    else if kind == 2 then record { path = p.path; directory = number }
    else p

unfoldable pub format_at : List ℕ → Option (ℕ × ℕ × List ℕ)
format_at bytes = do
  kind ← uleb128 bytes
  form ← uleb128 kind.1
  Some (kind.0, form.0, form.1)

-- an entry of n attributes more, by pairs of a kind and a form
unfoldable pub entry_from : Pools → ℕ → List ℕ → Place → List ℕ → Option (Place × List ℕ)
entry_from s zero pairs p bytes = Some (p, bytes)
entry_from s (suc n) pairs p bytes = do
  f ← format_at pairs
  a ← attribute_at s f.1 bytes
  entry_from s n f.2 (told f.0 a.0 a.1 p) a.2

abbrev pub empty : Place
empty = record { path = []; directory = 0 }

abbrev pub entry_at : Pools → Shape → List ℕ → Option (Place × List ℕ)
entry_at s f bytes = entry_from s f.count f.pairs empty bytes

-- no entry more: a table of version 4 isn't counted, and ends by a byte of 0
abbrev pub is_end : Bool → List ℕ → Bool
is_end counted [] = true
is_end counted (b ∷ bs) = not counted && (b == 0)

-- the entry behind n others
unfoldable pub entry_behind : Bool → Pools → Shape → ℕ → List ℕ → Option (Place × List ℕ)
entry_behind counted s f zero bytes = if is_end counted bytes then None else entry_at s f bytes
entry_behind counted s f (suc n) bytes =
    if is_end counted bytes then None else (do
      e ← entry_at s f bytes
      entry_behind counted s f n e.1)

-- the bytes behind n entries
unfoldable pub behind_entries : Pools → Shape → ℕ → List ℕ → Option (List ℕ)
behind_entries s f zero bytes = Some bytes
behind_entries s f (suc n) bytes = do
  e ← entry_at s f bytes
  behind_entries s f n e.1

-- the bytes behind all directories of version 4, at most n: texts up to an empty one
unfoldable pub behind_texts : ℕ → List ℕ → Option (List ℕ)
behind_texts zero bytes = None
behind_texts (suc n) bytes =
    if is_end false bytes then Some (drop 1 bytes) else (do
      t ← string_at bytes
      behind_texts n t.2)

-- ---- version 5: an entry's shape, how many entries there are, and these; none where an entry has no attribute

abbrev pub count_with : ℕ → ℕ → ℕ
count_with attributes count = if attributes == 0 then 0 else count

unfoldable pub table_at : List ℕ → Option (Shape × ℕ × List ℕ)
table_at bytes = do
  attributes ← number 1 bytes
  rest ← behind_uleb128s (2 * attributes.0) attributes.1
  count ← uleb128 rest
  Some (record { count = attributes.0; pairs = attributes.1 }, count_with attributes.0 count.0, count.1)

-- the entry of a table with a number
unfoldable pub numbered : Pools → ℕ → List ℕ → Option (Place × List ℕ)
numbered s n bytes = do
  t ← table_at bytes
  if nat_lt n t.1 then entry_behind true s t.0 n t.2 else None

-- the bytes behind a table
unfoldable pub behind_table : Pools → List ℕ → Option (List ℕ)
behind_table s bytes = do
  t ← table_at bytes
  behind_entries s t.0 t.1 t.2

-- ---- version 4: the attributes of a directory and of a file are these, and both are numbered from 1

-- a string, the number of a directory, a time and a length
abbrev pub directory_shape : Shape
directory_shape = record { count = 1; pairs = 1 ∷ 8 ∷ [] }

abbrev pub file_shape : Shape
file_shape = record { count = 4; pairs = 1 ∷ 8 ∷ 2 ∷ 15 ∷ 3 ∷ 15 ∷ 4 ∷ 15 ∷ [] }

-- ---- directories and files of either version, in the tables of a unit

-- the entry of a file
unfoldable pub file_in : Header → Pools → ℕ → List ℕ → Option (Place × List ℕ)
file_in h s n tables =
    if h.version == 5 then (do
      rest ← behind_table s tables
      numbered s n rest)
    else if n == 0 then None
    else (do
      rest ← behind_texts (length tables) tables
      entry_behind false s file_shape (n - 1) rest)

-- the entry of a directory; directory 0 of version 4 stands in .debug_info, and isn't told
unfoldable pub directory_in : Header → Pools → ℕ → List ℕ → Option (Place × List ℕ)
directory_in h s n tables =
    if h.version == 5 then numbered s n tables
    else if n == 0 then Some (empty, tables)
    else entry_behind false s directory_shape (n - 1) tables
