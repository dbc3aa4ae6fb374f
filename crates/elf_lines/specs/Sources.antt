-- The file of a row: its directories and its name, and the path that they make.
use Rattle.std.specs.Prelude.{ℕ, ◌-◌, Bool, false, not, ◌&&◌, ◌||◌, List, [], ◌∷◌, ◌++◌, length, drop, ◌==◌, slice_index, if◌then◌else◌, Option, Some, None}
use Rattle.dwarf_data.specs.Reading.{◌>>=◌, text}
use Rattle.elf_symbols.specs.declared.named.Section.{Section}
use Rattle.elf_symbols.specs.Named.{section_named, bytes_of}
use Rattle.elf_lines.specs.declared.fields.Header.{Header}
use Rattle.elf_lines.specs.declared.rows.Row.{Row}
use Rattle.elf_lines.specs.declared.sources.Sections.{Sections}
use Rattle.elf_lines.specs.Headers.{unit_at, header_at}
use Rattle.elf_lines.specs.Files.{Pools, file_in, directory_in}

-- ---- sections

abbrev pub bytes_in : List ℕ → Option Section → List ℕ
bytes_in bytes None = []
bytes_in bytes (Some s) = bytes_of bytes s.content

-- what the section of a name has; nothing where there is none
abbrev pub section : List ℕ → List ℕ → List ℕ
section bytes name = bytes_in bytes (section_named bytes name)

-- ---- the file of a row

abbrev pub pools_of : Header → Sections → Pools
pools_of h s = record { wide = h.wide; line_strings = s.line_strings.now; strings = s.strings.now }

-- the header and the tables of the unit at an offset of .debug_line
unfoldable pub tables_of : List ℕ → ℕ → Option (Header × List ℕ)
tables_of lines at = do
  u ← unit_at (drop at lines)
  h ← header_at u.0 u.1
  Some (h.0, h.2)

-- the directory of a file, where it has one of its own: 0 is that of its unit
unfoldable pub own_directory : Header → Pools → ℕ → List ℕ → Option (List ℕ)
own_directory h s n tables =
    if n == 0 then Some [] else (do
      d ← directory_in h s n tables
      Some (text d.0.path))

-- the directory of the row's unit, the directory of its own that its file has, and the file's name
unfoldable pub source_of : Sections → Row → Option (List ℕ × List ℕ × List ℕ)
source_of s row = do
  t ← tables_of s.lines.now row.unit
  file ← file_in t.0 (pools_of t.0 s) row.file t.1
  own ← own_directory t.0 (pools_of t.0 s) file.0.directory t.1
  unit ← directory_in t.0 (pools_of t.0 s) 0 t.1
  Some (text unit.0.path, own, text file.0.path)

-- ---- a path; a slash is 47

abbrev pub is_absolute : List ℕ → Bool
is_absolute [] = false
is_absolute (b ∷ bs) = b == 47

abbrev pub is_empty : List ℕ → Bool
is_empty path = length path == 0

abbrev pub ends_in_slash : List ℕ → Bool
ends_in_slash path = not (length path == 0) && (slice_index path (length path - 1) == 47)

abbrev pub slash_behind : List ℕ → List ℕ
slash_behind directory = if ends_in_slash directory then [] else 47 ∷ []

-- a path stays as it is, if it is absolute or nothing is known of the directory
abbrev pub stands_alone : List ℕ → List ℕ → Bool
stands_alone directory path = is_absolute path || is_empty directory

-- a path in a directory
unfoldable pub joined : List ℕ → List ℕ → List ℕ
joined directory path =
    if stands_alone directory path then path else (directory ++ slash_behind directory) ++ path

-- the file's name in its own directory, and that in the unit's
abbrev pub path_of : List ℕ → List ℕ → List ℕ → List ℕ
path_of unit_directory directory name = joined unit_directory (joined directory name)
