-- The word that wait4(2) writes, as strace(1) shows it.
use Rattle.std.specs.Prelude.{ℕ, zero, suc, ◌/◌, ◌%◌, ◌==◌, ◌&&◌, nat_lt, Bool, Option, Some, None, List, codes}
use Rattle.std.specs.Prelude.{decimal, if◌then◌else◌}
use Rattle.tr_values.specs.Sheets.{Sheet, Shown, put, ◌>>=◌}
use Rattle.tr_values.specs.Numbers.{hex, pointer}
use Rattle.tr_values.specs.Signals.{bare_signal}
use Rattle.tr_values.specs.Structs.{half_at, struct}

abbrev pub exited : ℕ → Sheet → Shown
exited word s = do
  s ← put (codes "[{WIFEXITED(s) && WEXITSTATUS(s) == ") s
  s ← put (decimal (word / 256)) s
  put (codes "}]") s

abbrev pub signalled : ℕ → Sheet → Shown
signalled word s = do
  s ← put (codes "[{WIFSIGNALED(s) && WTERMSIG(s) == SIG") s
  s ← put (bare_signal word) s
  put (codes "}]") s

abbrev pub stopped : ℕ → Sheet → Shown
stopped word s = do
  s ← put (codes "[{WIFSTOPPED(s) && WSTOPSIG(s) == SIG") s
  s ← put (bare_signal (word / 256)) s
  put (codes "}]") s

abbrev pub unnamed : ℕ → Sheet → Shown
unnamed word s = do
  s ← put (codes "[") s
  s ← hex word s
  put (codes "]") s

-- 0x7f, and a signal's number above it
abbrev pub is_stop_word : ℕ → Bool
is_stop_word word = (word % 256 == 127) && (nat_lt 0 (word / 256) && nat_lt (word / 256) 32)

-- an exit code times 256, the number of a signal that ended the child or stopped it, that it was continued, or none of
-- these
unfoldable pub wait_word : ℕ → Sheet → Shown
wait_word word s =
    if (word % 256 == 0) && nat_lt word 65536 then exited word s
    else (if nat_lt 0 word && nat_lt word 32 then signalled word s
    else (if is_stop_word word then stopped word s
    else (if word == 65535 then put (codes "[{WIFCONTINUED(s)}]") s else unnamed word s)))

abbrev pub word_read : List ℕ → Sheet → Shown
word_read bs s = wait_word (half_at 0 bs) s

unfoldable pub wait_word_at : ℕ → Sheet → Shown
wait_word_at address s = struct address 4 word_read s

-- a word is written for a child that was found: the call's result is its pid, or 0
abbrev pub wait_status : ℕ → Option ℕ → Sheet → Shown
wait_status address None s = wait_word_at address s
wait_status address (Some zero) s = pointer address s
wait_status address (Some (suc n)) s = wait_word_at address s
