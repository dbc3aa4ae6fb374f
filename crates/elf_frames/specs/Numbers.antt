-- Numbers at an offset of a table of frames. Values are modulo 2 ^ 64, negative ones too.
use Rattle.std.specs.Prelude.{ℕ, ◌-◌, List, length, drop, Option, Some, None}
use Rattle.dwarf_data.specs.Reading.{number, uleb128, sleb128}
use Rattle.elf_frames.specs.declared.numbers.Number.{Number}

-- what was read of some bytes: a value, and the offset behind it
abbrev pub placed : List ℕ → Option (ℕ × List ℕ) → Option Number
placed bytes None = None
placed bytes (Some x) = Some (record { value = x.0; next = length bytes - length x.1 })

-- the number of n bytes at an offset, the lowest byte first
unfoldable pub fixed : ℕ → List ℕ → ℕ → Option Number
fixed n bytes at = placed bytes (number n (drop at bytes))

-- ULEB128 and SLEB128
unfoldable pub unsigned : List ℕ → ℕ → Option Number
unsigned bytes at = placed bytes (uleb128 (drop at bytes))

unfoldable pub signed : List ℕ → ℕ → Option Number
signed bytes at = placed bytes (sleb128 (drop at bytes))
