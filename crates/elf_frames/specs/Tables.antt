-- Where a file's table of frames stands: the section .debug_frame (DWARF 5, 6.4), or else .eh_frame (LSB 5.0, 10.6).
use Rattle.std.specs.Prelude.{ℕ, Bool, true, false, List, codes, Option, Some, None}
use Rattle.elf_symbols.specs.declared.named.Section.{Section}
use Rattle.elf_symbols.specs.Named.{section_named}
use Rattle.elf_frames.specs.declared.tables.Table.{Table}

abbrev pub table_with : Bool → Option Section → Option Table
table_with is_eh_frame None = None
table_with is_eh_frame (Some s) = Some (record { content = s.content; address = s.address; is_eh_frame = is_eh_frame })

abbrev pub or_else : Option Table → Option Table → Option Table
or_else None other = other
or_else (Some t) other = Some t

unfoldable pub table_of : List ℕ → Option Table
table_of bytes =
    or_else (table_with false (section_named bytes (codes ".debug_frame")))
    (table_with true (section_named bytes (codes ".eh_frame")))
