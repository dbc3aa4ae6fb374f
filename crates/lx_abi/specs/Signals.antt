-- The signals of signal(7), by number and name.
use Rattle.std.specs.Prelude.{◌≡◌, ℕ, Bool, true, false, ◌&&◌, ◌==◌, not, nat_le, nat_lt, nat_eq, List, [], ◌∷◌, Option, Some, None, option_map, find, codes, drop, refl, if◌then◌else◌}
use Rattle.std.specs.Str.{bytes_eq}
use Rattle.std.specs.List.{starts_with}
use Rattle.lx_abi.specs.declared.signal.Signal.{Signal}

-- 1 to 31, which kill(2) takes
abbrev pub is_signal : ℕ → Bool
is_signal n = nat_lt 0 n && nat_lt n 32

abbrev pub numbered : (n : ℕ) (b : Bool) → is_signal n ≡ b → Option Signal
numbered n true e = Some (record { number = n; in_range = e })
numbered n false e = None

-- the signal with this number
unfoldable pub signal_numbered : ℕ → Option Signal
signal_numbered n = numbered n (is_signal n) refl

-- a stop signal of job control (signal(7)): STOP, TSTP, TTIN, TTOU
abbrev pub is_stop : ℕ → Bool
is_stop n = nat_le 19 n && nat_le n 22

-- CONT
abbrev pub cont_number : ℕ
cont_number = 18

-- number and name of each signal, without SIG
unfoldable pub signals : List (ℕ × List ℕ)
signals =
    (1, codes "HUP") ∷
    (2, codes "INT") ∷
    (3, codes "QUIT") ∷
    (4, codes "ILL") ∷
    (5, codes "TRAP") ∷
    (6, codes "ABRT") ∷
    (7, codes "BUS") ∷
    (8, codes "FPE") ∷
    (9, codes "KILL") ∷
    (10, codes "USR1") ∷
    (11, codes "SEGV") ∷
    (12, codes "USR2") ∷
    (13, codes "PIPE") ∷
    (14, codes "ALRM") ∷
    (15, codes "TERM") ∷
    (16, codes "STKFLT") ∷
    (17, codes "CHLD") ∷
    (18, codes "CONT") ∷
    (19, codes "STOP") ∷
    (20, codes "TSTP") ∷
    (21, codes "TTIN") ∷
    (22, codes "TTOU") ∷
    (23, codes "URG") ∷
    (24, codes "XCPU") ∷
    (25, codes "XFSZ") ∷
    (26, codes "VTALRM") ∷
    (27, codes "PROF") ∷
    (28, codes "WINCH") ∷
    (29, codes "IO") ∷
    (30, codes "PWR") ∷
    (31, codes "SYS") ∷
    []

-- a name without the SIG in front of it, where it has one
abbrev pub without_sig : List ℕ → List ℕ
without_sig name = if starts_with nat_eq name (codes "SIG") then drop 3 name else name

-- the number of the signal with this name, SIGUSR1 or USR1
unfoldable pub signal_number : List ℕ → Option ℕ
signal_number name = option_map (λ row. row.0) (find (λ row. bytes_eq row.1 (without_sig name)) signals)

-- the name of the signal with this number, without SIG
unfoldable pub signal_name : ℕ → Option (List ℕ)
signal_name number = option_map (λ row. row.1) (find (λ row. row.0 == number) signals)
