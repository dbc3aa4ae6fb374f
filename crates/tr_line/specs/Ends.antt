-- The line of a process's end, as strace(1) shows it, from a word of wait(2).
use Rattle.std.specs.Prelude.{ℕ, ◌/◌, ◌&&◌, nat_lt, List, ◌++◌, codes, decimal, if◌then◌else◌}
use Rattle.tr_line.specs.Signals.{signal_shown}

-- a wait word: a signal's number, or an exit code times 256
unfoldable pub exit_line : ℕ → List ℕ
exit_line word =
    (if nat_lt word 256 && nat_lt 0 word then codes "+++ killed by " ++ signal_shown word
    else codes "+++ exited with " ++ decimal (word / 256)) ++ codes " +++\n"
