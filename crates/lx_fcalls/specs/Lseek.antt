-- lseek(fd, offset, whence): lseek(2).
use Rattle.std.specs.Option.{option_and_then}
use Rattle.std.specs.Prelude.{ℕ, ◌+◌, ◌-◌, ◌^◌, ◌==◌, nat_lt, nat_le, length, Option, Some, None, if◌then◌else◌}
use Rattle.lx_abi.specs.Errnos.{einval, espipe}
use Rattle.lx_abi.specs.declared.log.Call.{Call}
use Rattle.lx_abi.specs.Limits.{largest_file}
use Rattle.lx_model.specs.Machine.{Refused, Returns}
use Rattle.lx_files.specs.Trees.{content}
use Rattle.lx_open.specs.Opens.{with_offset}
use Rattle.lx_open.specs.declared.description.Description.{Description}
use Rattle.lx_open.specs.declared.description.Object.{Object}
use Rattle.lx_open.specs.declared.description.Object.TheVariants.{Input, Console, ReadEnd, WriteEnd, Opened}
use Rattle.lx_open.specs.declared.description.Slot.{Slot}
use Rattle.lx_proc.specs.Answers.{Answers, argument, low_argument, unless, given}
use Rattle.lx_proc.specs.State.{with_fds}
use Rattle.lx_proc.specs.declared.state.UserState.{UserState}
use Rattle.lx_proc.specs.declared.state.Shared.{Shared}
use Rattle.lx_fcalls.specs.Arguments.{opened}

-- a signed distance from a place, where it doesn't lead before 0
abbrev pub distant : ℕ → ℕ → Option ℕ
distant from by =
    if nat_lt by (2 ^ 63) then Some (from + by)
    else if nat_le (2 ^ 64 - by) from then Some (from - (2 ^ 64 - by))
    else None

-- the place that a signed distance leads to, within a file's limit
abbrev pub landing : ℕ → ℕ → Option ℕ
landing from by = option_and_then (λ to. if nat_le to largest_file then Some to else None) (distant from by)

-- SEEK_SET, SEEK_CUR and SEEK_END (unistd.h)
abbrev pub origin : Shared → Description → ℕ → ℕ → Option ℕ
origin s d node whence =
    if whence == 0 then Some 0
    else if whence == 1 then Some d.offset
    else if whence == 2 then Some (length (content s.tree node))
    else None

abbrev pub seeks_node : Shared → UserState → Slot → Description → ℕ → ℕ → ℕ → Answers
seeks_node s b named d by whence node =
    given (origin s d node whence) einval (λ from.
    given (landing from by) einval (λ to.
    Returns (with_fds s (with_offset s.fds named.description to)) b to))

abbrev pub seeks : Shared → UserState → Slot → Description → ℕ → ℕ → Object → Answers
seeks s b named d by whence Input = Refused espipe
seeks s b named d by whence Console = Refused espipe
seeks s b named d by whence (ReadEnd pipe) = Refused espipe
seeks s b named d by whence (WriteEnd pipe) = Refused espipe
seeks s b named d by whence (Opened node) = seeks_node s b named d by whence node

unfoldable pub lseek : Shared → ℕ → Call → UserState → Answers
lseek s p call b =
    opened s p (low_argument call 0) (λ named d.
    unless (nat_lt (argument call 2) 3) einval
    (seeks s b named d (argument call 1) (argument call 2) d.object))
