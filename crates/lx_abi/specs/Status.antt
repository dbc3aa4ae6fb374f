-- Status words of wait(2), and what they report of a tracee (ptrace(2), "Stopped states").
use Rattle.std.specs.Prelude.{ℕ, ◌+◌, ◌-◌, ◌*◌, ◌/◌, ◌%◌, ◌==◌, ◌&&◌, ◌||◌, Bool, true, false, cond, nat_lt, Option, Some, None}
use Rattle.std.specs.Option.{option_map}
use Rattle.lx_abi.specs.declared.status.EventStop.TheVariants.{Fork, Exec, Stop as Started}
use Rattle.lx_abi.specs.declared.status.Stop.{Stop}
use Rattle.lx_abi.specs.declared.status.Stop.TheVariants.{Syscall, Signal as By_signal, Group, Event, Ended}
use Rattle.lx_abi.specs.Signals.{is_signal, is_stop, signal_numbered}

-- a stop's word has 0x7f (WIFSTOPPED) and above it SIGTRAP or the signal (WSTOPSIG); an event stands above that,
-- PTRACE_EVENT_STOP at a group stop too (ptrace(2), "Group-stop")
abbrev pub word_of : Stop → ℕ
word_of (Syscall true) = 0x857f
word_of (Syscall false) = 0x57f
word_of (By_signal signal) = signal.number * 256 + 0x7f
word_of (Group signal) = signal.number * 256 + 0x80007f
word_of (Event Fork) = 0x1057f
word_of (Event Exec) = 0x4057f
word_of (Event Started) = 0x80057f
word_of (Ended word) = word

-- an exit code times 256 (WIFEXITED), or a signal's number (WIFSIGNALED)
abbrev pub is_end : ℕ → Bool
is_end word = ((word % 256 == 0) && nat_lt word 65536) || is_signal word

-- what a stopped tracee's word has above 0x7f, where TRACESYSGOOD is set
abbrev pub stop_by : ℕ → Option Stop
stop_by n =
    cond (n == 0x85) (Some (Syscall true))
    (cond (n == 0x105) (Some (Event Fork))
    (cond (n == 0x405) (Some (Event Exec))
    (cond (n == 0x8005) (Some (Event Started))
    (cond (is_stop (n - 0x8000)) (option_map (λ signal. Group signal) (signal_numbered (n - 0x8000)))
    (option_map (λ signal. By_signal signal) (signal_numbered n))))))

abbrev pub end_by : ℕ → Option Stop
end_by word = cond (is_end word) (Some (Ended word)) None

-- what a shell shows of an end: the exit code (WEXITSTATUS), or 128 and the signal (WTERMSIG)
abbrev pub shell_status_of : ℕ → ℕ
shell_status_of word = cond (word % 128 == 0) (word / 256 % 256) (128 + word % 128)

-- what a word reports, where TRACESYSGOOD is set
unfoldable pub stop_of : ℕ → Option Stop
stop_of word = cond (word % 256 == 0x7f) (stop_by (word / 256)) (end_by word)
