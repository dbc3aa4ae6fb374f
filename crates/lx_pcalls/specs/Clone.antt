-- clone(flags, stack): clone(2), of a whole process alone, as fork(2).
use Rattle.std.specs.Prelude.{ℕ, ◌+◌, ◌^◌, ◌%◌, ◌==◌, ◌&&◌, nat_lt, nat_le, Bool, List, set, None, if◌then◌else◌}
use Rattle.std.specs.FinMap as maps
use Rattle.rv_hart.specs.declared.hart.Hart.{Hart}
use Rattle.lx_abi.specs.Errnos.{eagain, einval}
use Rattle.lx_abi.specs.declared.log.Call.{Call}
use Rattle.lx_model.specs.Machine.{Bears}
use Rattle.lx_sig.specs.Reactions.{of_child}
use Rattle.lx_open.specs.Opens.{inherited}
use Rattle.lx_proc.specs.declared.state.Shared.{Shared}
use Rattle.lx_proc.specs.declared.state.Entry.{Entry}
use Rattle.lx_proc.specs.declared.state.UserState.{UserState}
use Rattle.lx_proc.specs.declared.state.Life.TheVariants.{Alive}
use Rattle.lx_proc.specs.State.{with_hart}
use Rattle.lx_proc.specs.Answers.{Answers, argument, unless, at_entry}

-- flags: the signal of its end, SIGCHLD, and nothing shared
abbrev pub fork_flags : ℕ
fork_flags = 17

-- one process more is within the limits, with this pid
abbrev pub has_room : Shared → ℕ → Bool
has_room s child = nat_lt (maps.len s.entries) s.limits.live && nat_le child s.limits.last_pid

-- its parent's directory, mask and actions, and nothing pending
abbrev pub child_entry : Entry → ℕ → Entry
child_entry e p = record {
  life = Alive;
  news = None;
  parent = p;
  directory = e.directory;
  signals = of_child e.signals;
}

-- a child has this entry, and its parent's descriptors
abbrev pub with_child : Shared → ℕ → ℕ → Entry → Shared
with_child s child p entry = record s { fds = inherited s.fds p child; entries = maps.insert s.entries child entry }

-- a stack of its own where one is given
abbrev pub child_registers : List ℕ → ℕ → List ℕ
child_registers r stack = if stack == 0 then set r 10 0 else set (set r 10 0) 2 stack

-- pc passes the ecall, and the result is 0
abbrev pub child_hart : Hart → ℕ → Hart
child_hart h stack = record { pc = (h.pc + 4) % 2 ^ 64; registers = child_registers h.registers stack }

abbrev pub child_user : UserState → ℕ → UserState
child_user b stack = with_hart b (child_hart b.hart stack)

abbrev pub bears : Shared → ℕ → ℕ → Call → UserState → Entry → Answers
bears s child p call b e =
    unless (has_room s child) eagain
    (Bears (with_child s child p (child_entry e p)) b (child_user b (argument call 1)))

-- the child has the pid that is handed in
unfoldable pub clone : Shared → ℕ → ℕ → Call → UserState → Answers
clone s child p call b = unless (argument call 0 == fork_flags) einval (at_entry s p (bears s child p call b))
