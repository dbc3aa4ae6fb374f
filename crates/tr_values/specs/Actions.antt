-- The action of a signal as strace(1) shows it (the kernel's struct of sigaction(2): handler, flags, mask).
use Rattle.std.specs.Prelude.{ℕ, List, codes}
use Rattle.lx_abi.specs.Flags.{handlers}
use Rattle.tr_values.specs.Sheets.{Sheet, Shown, put, ◌>>=◌}
use Rattle.tr_values.specs.Flags.{action_flags, named}
use Rattle.tr_values.specs.Signals.{set_shown}
use Rattle.tr_values.specs.Structs.{word_at, struct}

unfoldable pub handler : ℕ → Sheet → Shown
handler x s = named handlers x s

unfoldable pub action_read : List ℕ → Sheet → Shown
action_read bs s = do
  s ← put (codes "{sa_handler=") s
  s ← handler (word_at 0 bs) s
  s ← put (codes ", sa_mask=") s
  s ← set_shown (word_at 16 bs) s
  s ← put (codes ", sa_flags=") s
  s ← action_flags (word_at 8 bs) s
  put (codes "}") s

unfoldable pub action : ℕ → Sheet → Shown
action address s = struct address 24 action_read s
