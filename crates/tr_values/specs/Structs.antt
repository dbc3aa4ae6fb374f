-- Structs in the memory of a process: little endian numbers at their places, and a struct that can't be read.
use Rattle.std.specs.Prelude.{ℕ, ◌==◌, nat_lt, List, length, take, drop, codes, if◌then◌else◌}
use Rattle.std.specs.Int.{w32, w64, from_le_bytes}
use Rattle.tr_values.specs.Sheets.{Sheet, Shown, put, reads}
use Rattle.tr_values.specs.Numbers.{pointer}

abbrev pub half_at : ℕ → List ℕ → ℕ
half_at i bs = from_le_bytes w32 (take 4 (drop i bs))

abbrev pub word_at : ℕ → List ℕ → ℕ
word_at i bs = from_le_bytes w64 (take 8 (drop i bs))

-- null is shown without a read
abbrev pub unless_null : ℕ → (Sheet → Shown) → Sheet → Shown
unless_null address f s = if address == 0 then put (codes "NULL") s else f s

-- so many bytes by a function of these, or the address where they can't be read
abbrev pub struct_read : ℕ → ℕ → (List ℕ → Sheet → Shown) → List ℕ → Sheet → Shown
struct_read address size f bs s = if nat_lt (length bs) size then pointer address s else f bs s

abbrev pub struct : ℕ → ℕ → (List ℕ → Sheet → Shown) → Sheet → Shown
struct address size f s = unless_null address (reads address size (struct_read address size f)) s
