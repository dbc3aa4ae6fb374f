-- What stat(2) tells of a file, as strace(1) shows it (riscv64: st_mode at 16, st_size at 48, 128 bytes in all).
use Rattle.std.specs.Prelude.{ℕ, ◌*◌, ◌/◌, ◌%◌, List, codes, decimal}
use Rattle.lx_abi.specs.Flags.{file_types}
use Rattle.tr_values.specs.Sheets.{Sheet, Shown, put, ◌>>=◌}
use Rattle.tr_values.specs.Numbers.{mode}
use Rattle.tr_values.specs.Flags.{named}
use Rattle.tr_values.specs.Structs.{half_at, word_at, struct}

unfoldable pub file_type : ℕ → Sheet → Shown
file_type x s = named file_types x s

-- a type, above the low 12 bits, and permissions
unfoldable pub file_mode : ℕ → Sheet → Shown
file_mode x s = do
  s ← file_type (x / 4096 * 4096) s
  s ← put (codes "|") s
  mode (x % 4096) s

unfoldable pub stat_read : List ℕ → Sheet → Shown
stat_read bs s = do
  s ← put (codes "{st_mode=") s
  s ← file_mode (half_at 16 bs) s
  s ← put (codes ", st_size=") s
  s ← put (decimal (word_at 48 bs)) s
  put (codes ", ...}") s

unfoldable pub stat : ℕ → Sheet → Shown
stat address s = struct address 128 stat_read s
