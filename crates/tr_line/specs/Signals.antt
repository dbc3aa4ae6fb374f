-- The line of a signal, as strace(1) shows it, from what siginfo_t tells (sigaction(2)).
use Rattle.std.specs.Prelude.{ℕ, ◌==◌, ◌||◌, Bool, Option, Some, None, List, ◌++◌, codes, decimal}
use Rattle.std.specs.Prelude.{if◌then◌else◌}
use Rattle.lx_abi.specs.declared.ptrace.Info.{Info}
use Rattle.tr_values.specs.Numbers.{pointer_text}
use Rattle.tr_values.specs.Signals.{name_of_signal}

-- SIGX, or the number where it is none
abbrev pub named_signal : ℕ → Option (List ℕ) → List ℕ
named_signal n (Some name) = codes "SIG" ++ name
named_signal n None = decimal n

unfoldable pub signal_shown : ℕ → List ℕ
signal_shown n = named_signal n (name_of_signal n)

-- the code and what belongs to it, by signal and code (sigaction(2))
abbrev pub is_fault : ℕ → Bool
is_fault signal = (signal == 4) || ((signal == 5) || ((signal == 7) || (signal == 11)))

unfoldable pub fault_code : ℕ → ℕ → List ℕ
fault_code signal code =
    if signal == 11 then (if code == 2 then codes "SEGV_ACCERR" else codes "SEGV_MAPERR")
    else (if signal == 7 then codes "BUS_ADRALN" else (if signal == 5 then codes "TRAP_BRKPT" else codes "ILL_ILLOPC"))

abbrev pub child_code : ℕ → List ℕ
child_code code =
    if code == 1 then codes "si_code=CLD_EXITED"
    else (if code == 5 then codes "si_code=CLD_STOPPED"
    else (if code == 6 then codes "si_code=CLD_CONTINUED" else codes "si_code=CLD_KILLED"))

-- the exit code, or the signal that ended, stopped or continued the child
abbrev pub child_status : Info → List ℕ
child_status i = if i.code == 1 then decimal i.status else signal_shown i.status

unfoldable pub child_who : Info → List ℕ
child_who i = child_code i.code ++ (codes ", si_pid=" ++ decimal i.pid)

unfoldable pub child_how : Info → List ℕ
child_how i = codes ", si_uid=0, si_status=" ++ (child_status i ++ codes ", si_utime=0, si_stime=0")

abbrev pub child_text : Info → List ℕ
child_text i = child_who i ++ child_how i

abbrev pub sender_text : Info → List ℕ
sender_text i = codes "si_code=SI_USER, si_pid=" ++ (decimal i.pid ++ codes ", si_uid=0")

abbrev pub fault_text : Info → List ℕ
fault_text i = codes "si_code=" ++ (fault_code i.signal i.code ++ (codes ", si_addr=" ++ pointer_text i.address))

unfoldable pub cause_text : Info → List ℕ
cause_text i =
    if i.code == 0 then sender_text i
    else (if i.code == 0x80 then codes "si_code=SI_KERNEL"
    else (if is_fault i.signal then fault_text i else child_text i))

unfoldable pub signo_text : ℕ → List ℕ
signo_text n = codes " {si_signo=" ++ signal_shown n

unfoldable pub signal_twice : ℕ → List ℕ
signal_twice n = signal_shown n ++ signo_text n

unfoldable pub signal_head : ℕ → List ℕ
signal_head n = codes "--- " ++ signal_twice n

unfoldable pub signal_line : Info → List ℕ
signal_line i = signal_head i.signal ++ (codes ", " ++ (cause_text i ++ codes "} ---\n"))

-- the line of a group stop
unfoldable pub stop_line : ℕ → List ℕ
stop_line n = codes "--- stopped by " ++ (signal_shown n ++ codes " ---\n")
