-- Descriptors as strace(1) shows them: one that a path is relative to (openat(2)), and the pair of pipe2(2).
use Rattle.std.specs.Prelude.{ℕ, ◌-◌, ◌%◌, ◌^◌, ◌==◌, List, codes, if◌then◌else◌}
use Rattle.tr_values.specs.Sheets.{Sheet, Shown, put, ◌>>=◌}
use Rattle.tr_values.specs.Numbers.{int}
use Rattle.tr_values.specs.Structs.{half_at, struct}

-- AT_FDCWD is -100, in 32 bits
unfoldable pub directory : ℕ → Sheet → Shown
directory x s = if x % 2 ^ 32 == 2 ^ 32 - 100 then put (codes "AT_FDCWD") s else int x s

unfoldable pub pair_read : List ℕ → Sheet → Shown
pair_read bs s = do
  s ← put (codes "[") s
  s ← int (half_at 0 bs) s
  s ← put (codes ", ") s
  s ← int (half_at 4 bs) s
  put (codes "]") s

unfoldable pub pair : ℕ → Sheet → Shown
pair address s = struct address 8 pair_read s
