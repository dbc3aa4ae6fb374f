-- Paths as strace(1) shows them, whatever its -s.
use Rattle.std.specs.Prelude.{ℕ, nat_lt, List, length, take, if◌then◌else◌}
use Rattle.tr_values.specs.Sheets.{Sheet, Shown, reads}
use Rattle.tr_values.specs.Numbers.{pointer}
use Rattle.tr_values.specs.Escapes.{nul_at, quoted, cut}
use Rattle.tr_values.specs.Structs.{unless_null}

-- all of it, the address where it can't be read to its NUL, and the first 4,095 where 4,096 bytes have none
unfoldable pub path_read : ℕ → List ℕ → Sheet → Shown
path_read address bs s =
    if nat_lt (nul_at bs) (length bs) then quoted (take (nul_at bs) bs) s
    else (if nat_lt (length bs) 4096 then pointer address s else cut (take 4095 bs) s)

unfoldable pub path : ℕ → Sheet → Shown
path address s = unless_null address (reads address 4096 (path_read address)) s
