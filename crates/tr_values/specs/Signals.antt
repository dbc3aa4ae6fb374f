-- Signals and sets of signals as strace(1) shows them (kill(2), sigprocmask(2), sigreturn(2)).
use Rattle.std.specs.Prelude.{ℕ, zero, suc, ◌+◌, ◌/◌, ◌%◌, ◌^◌, ◌==◌, Bool, true, false, if◌then◌else◌}
use Rattle.std.specs.Prelude.{Option, Some, None, option_and_then, List, [], ◌++◌, codes, decimal}
use Rattle.lx_abi.specs.Signals.{signal_name, signal_numbered}
use Rattle.tr_values.specs.Sheets.{Sheet, Shown, put, ◌>>=◌}
use Rattle.tr_values.specs.Numbers.{int}
use Rattle.tr_values.specs.Structs.{word_at, struct}

-- the name of the signal with this number, without SIG
abbrev pub name_of_signal : ℕ → Option (List ℕ)
name_of_signal n = option_and_then (λ s. signal_name s.number) (signal_numbered n)

-- a name with SIG, else the low 32 bits, signed
abbrev pub signal_or : ℕ → Option (List ℕ) → Sheet → Shown
signal_or x (Some name) s = put (codes "SIG" ++ name) s
signal_or x None s = int x s

unfoldable pub signal_number : ℕ → Sheet → Shown
signal_number x s = signal_or x (name_of_signal (x % 2 ^ 32)) s

abbrev pub named_or_decimal : ℕ → Option (List ℕ) → List ℕ
named_or_decimal n (Some name) = name
named_or_decimal n None = decimal n

-- a name without SIG, else the number
abbrev pub bare_signal : ℕ → List ℕ
bare_signal n = named_or_decimal n (name_of_signal n)

-- of so many signals from n on, rising, those in a set, of which the lowest bit is n's
unfoldable pub signals_text : ℕ → Bool → ℕ → ℕ → List ℕ
signals_text zero some n set = []
signals_text (suc k) some n set =
    if set % 2 == 1
    then (if some then codes " " else []) ++ (bare_signal n ++ signals_text k true (n + 1) (set / 2))
    else signals_text k some (n + 1) (set / 2)

unfoldable pub set_shown : ℕ → Sheet → Shown
set_shown set s = put (codes "[" ++ (signals_text 64 false 1 set ++ codes "]")) s

abbrev pub set_read : List ℕ → Sheet → Shown
set_read bs s = set_shown (word_at 0 bs) s

-- 64 bits, of which the lowest is signal 1's
unfoldable pub signal_set : ℕ → Sheet → Shown
signal_set address s = struct address 8 set_read s

-- the mask in the signal frame at the stack pointer
unfoldable pub frame_mask : ℕ → Sheet → Shown
frame_mask sp s = do
  s ← put (codes "{mask=") s
  s ← signal_set ((sp + 256) % 2 ^ 64) s
  put (codes "}") s
