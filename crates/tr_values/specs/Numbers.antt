-- Numbers as strace(1) shows them. A register has 64 bits.
use Rattle.std.specs.Prelude.{ℕ, ◌-◌, ◌^◌, ◌%◌, ◌==◌, nat_lt, false, List, ◌++◌, codes, decimal, if◌then◌else◌}
use Rattle.std.specs.Fmt.{digits}
use Rattle.tr_values.specs.Sheets.{Sheet, Shown, put}

-- of so many bits, signed
abbrev pub signed_text : ℕ → ℕ → List ℕ
signed_text bits n = if nat_lt n (2 ^ (bits - 1)) then decimal n else codes "-" ++ decimal (2 ^ bits - n)

abbrev pub hex_text : ℕ → List ℕ
hex_text n = if n == 0 then codes "0" else codes "0x" ++ digits 16 false n

abbrev pub pointer_text : ℕ → List ℕ
pointer_text n = if n == 0 then codes "NULL" else codes "0x" ++ digits 16 false n

-- a leading 0, and at least three characters
abbrev pub mode_text : ℕ → List ℕ
mode_text n = if nat_lt n 8 then codes "00" ++ digits 8 false n else codes "0" ++ digits 8 false n

unfoldable pub int : ℕ → Sheet → Shown
int x s = put (signed_text 32 (x % 2 ^ 32)) s

unfoldable pub long : ℕ → Sheet → Shown
long x s = put (signed_text 64 x) s

unfoldable pub unsigned : ℕ → Sheet → Shown
unsigned x s = put (decimal x) s

unfoldable pub pointer : ℕ → Sheet → Shown
pointer x s = put (pointer_text x) s

unfoldable pub hex : ℕ → Sheet → Shown
hex x s = put (hex_text x) s

unfoldable pub mode : ℕ → Sheet → Shown
mode x s = put (mode_text x) s
