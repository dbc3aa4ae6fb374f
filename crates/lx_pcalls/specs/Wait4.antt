-- wait4(pid, wstatus, options, rusage): wait4(2).
use Rattle.std.specs.Prelude.{ℕ, ◌+◌, ◌*◌, ◌-◌, ◌^◌, ◌==◌, ◌&&◌, ◌||◌, bit_and, nat_lt, Bool, true, false, not, find, Option, Some, None, is_some, if◌then◌else◌}
use Rattle.std.specs.Option.{option_or}
use Rattle.std.specs.FinMap as maps
use Rattle.std.specs.Int.{w32, to_le_bytes}
use Rattle.lx_abi.specs.Errnos.{echild, einval}
use Rattle.lx_abi.specs.declared.log.Call.{Call}
use Rattle.lx_model.specs.Machine.{Returns, Blocks}
use Rattle.lx_sig.specs.Frames.{has_bit}
use Rattle.lx_proc.specs.declared.state.Shared.{Shared}
use Rattle.lx_proc.specs.declared.state.Entry.{Entry}
use Rattle.lx_proc.specs.declared.state.UserState.{UserState}
use Rattle.lx_proc.specs.declared.state.Life.{Life}
use Rattle.lx_proc.specs.declared.state.Life.TheVariants.{Alive, Dying, Zombie}
use Rattle.lx_proc.specs.declared.state.News.{News}
use Rattle.lx_proc.specs.declared.state.News.TheVariants.{Stopped, Continued}
use Rattle.lx_proc.specs.Families.{is_zombie}
use Rattle.lx_proc.specs.State.{Entries, changed, with_entries, with_news}
use Rattle.lx_proc.specs.Answers.{Answers, argument, low_argument, unless, given, gives}

-- -1 as a number of 32 bits: any child
abbrev pub any_child : ℕ
any_child = 2 ^ 32 - 1

-- a child by its pid, or any; no options but WNOHANG 1, WUNTRACED 2 and WCONTINUED 8; no rusage
abbrev pub may_wait : Call → Bool
may_wait call =
    (low_argument call 0 == any_child || (nat_lt 0 (low_argument call 0) && nat_lt (low_argument call 0) (2 ^ 31)))
    && (bit_and (argument call 2) 0xB == argument call 2) && (argument call 3 == 0)

abbrev pub no_hang : Call → Bool
no_hang call = has_bit (argument call 2) 0

-- how a zombie ended
abbrev pub zombie_word : Life → Option ℕ
zombie_word Alive = None
zombie_word (Dying w) = None
zombie_word (Zombie w) = Some w

-- what is told of a stop under WUNTRACED, and of a waking under WCONTINUED
abbrev pub news_word : ℕ → Option News → Option ℕ
news_word options None = None
news_word options (Some (Stopped signal)) = if has_bit options 1 then Some (signal.number * 256 + 0x7f) else None
news_word options (Some Continued) = if has_bit options 3 then Some 0xffff else None

-- what these options tell of a process: its end, or what was not told of it yet
abbrev pub told_word : ℕ → Entry → Option ℕ
told_word options e = option_or (zombie_word e.life) (news_word options e.news)

-- these options tell of zombies alone
abbrev pub is_of_zombies : ℕ → Bool
is_of_zombies options = not (has_bit options 1) && not (has_bit options 3)

-- any child, or one of which these options tell
abbrev pub is_asked : Option ℕ → Entry → Bool
is_asked None e = true
is_asked (Some options) e = is_some (told_word options e)

-- a child that is meant, and asked for
abbrev pub is_meant : Entry → ℕ → ℕ → Option ℕ → ℕ → Bool
is_meant e p wanted asked n = (e.parent == p) && (wanted == any_child || wanted == n) && is_asked asked e

abbrev pub is_meant_by : Option Entry → ℕ → ℕ → Option ℕ → ℕ → Bool
is_meant_by None p wanted asked n = false
is_meant_by (Some e) p wanted asked n = is_meant e p wanted asked n

unfoldable pub is_child : Entries → ℕ → ℕ → Option ℕ → ℕ → Bool
is_child entries p wanted asked n = is_meant_by (maps.get entries n) p wanted asked n

-- the lowest of them
unfoldable pub first_child : Entries → ℕ → ℕ → Option ℕ → Option ℕ
first_child entries p wanted asked = find (is_child entries p wanted asked) (maps.keys entries)

abbrev pub word_in : ℕ → Option Entry → Option ℕ
word_in options None = None
word_in options (Some e) = told_word options e

-- a zombie that was told of leaves the table; of any other child nothing is left to tell
abbrev pub told_entry : Entries → ℕ → Option Entry → Entries
told_entry entries n None = entries
told_entry entries n (Some e) =
    if is_zombie e.life then maps.remove entries n else changed entries n (λ e. with_news e None)

abbrev pub told_child : Shared → ℕ → Shared
told_child s n = with_entries s (told_entry s.entries n (maps.get s.entries n))

-- the child's word is written before it counts as told, unless its place is null
abbrev pub reaps : Shared → UserState → Call → ℕ → ℕ → Answers
reaps s b call n word =
    if argument call 1 == 0 then Returns (told_child s n) b n
    else gives (told_child s n) b (argument call 1) (to_le_bytes w32 word) n

-- with nothing to tell WNOHANG gives 0
abbrev pub waits : Shared → UserState → Call → Option ℕ → Answers
waits s b call None = if no_hang call then Returns s b 0 else Blocks
waits s b call (Some n) = given (word_in (argument call 2) (maps.get s.entries n)) echild (reaps s b call n)

unfoldable pub wait4 : Shared → ℕ → Call → UserState → Answers
wait4 s p call b =
    unless (may_wait call) einval
    (unless (is_some (first_child s.entries p (low_argument call 0) None)) echild
    (waits s b call (first_child s.entries p (low_argument call 0) (Some (argument call 2)))))

-- a call that waits for ever unless something happens
unfoldable pub wait4_would_block : Shared → ℕ → Call → Bool
wait4_would_block s p call =
    may_wait call
    && not (no_hang call)
    && is_some (first_child s.entries p (low_argument call 0) None)
    && not (is_some (first_child s.entries p (low_argument call 0) (Some (argument call 2))))
