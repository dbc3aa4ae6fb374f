-- A failure of one process at its nth entry into a call. The call has an error for its result, and isn't done; or it
-- is done, and has the error for its result then; or it is done with another count; or its process is killed there; or
-- everything ends there, as where the power fails; or a world begins there, in which calls of every process fail.
use Rattle.std.specs.Prelude.{ℕ, pos, neg_ℤ, ◌==◌, ◌&&◌, ◌||◌, Bool, true, false, cond, List, [], ◌∷◌, nat_le, set}
use Rattle.std.specs.Prelude.{Option, Some, None}
use Rattle.lx_abi.specs.declared.errno.Errno.{Errno}
use Rattle.lx_abi.specs.declared.log.Item.{Item}
use Rattle.lx_abi.specs.declared.log.Item.TheVariants as items
use Rattle.lx_abi.specs.declared.log.Mode.{Mode}
use Rattle.lx_abi.specs.declared.log.Mode.TheVariants as mode
use Rattle.lx_abi.specs.declared.script.Choice.{Choice}
use Rattle.lx_abi.specs.Errors.{error_word}
use Rattle.lx_abi.specs.Log.{entries}
use Rattle.lx_abi.specs.Signals.{signal_numbered}
use Rattle.lx_model.specs.Machine.{Regs, a7_of, call_of}
use Rattle.lx_model.specs.declared.stage.Task.{Task}
use Rattle.lx_kernel.specs.Choices.{after_choosing}
use Rattle.lx_kernel.specs.Runs.{Run, after_turn, mode_in}
use Rattle.lx_kernel.specs.Tracing.{task_in, regs_of, with_regs, with_part}
use Rattle.lx_proc.specs.declared.state.UserState.{UserState}
use Rattle.sweep_rows.specs.Descriptors.{argument, descriptor, uses_of}
use Rattle.sweep_rows.specs.Worlds.{error_in}
use Rattle.sweep_rows.specs.declared.worlds.World.{World}
use Rattle.sweep_faults.specs.declared.faults.Fault.{Fault}
pub use Rattle.sweep_rows.specs.Kinds.{error_of, is_stop, is_undone, is_world}
use Rattle.sweep_rows.specs.declared.kinds.Kind.{Kind}
use Rattle.sweep_rows.specs.declared.kinds.Kind.TheVariants as kind

-- Of a call that isn't done.

-- the call's result is the error's negative (syscall(2))
abbrev pub failing : Errno → Choice
failing error = record { result = Some (neg_ℤ (pos error.number)); signal = None }

-- a process that stands so has entered a call, which isn't done yet
abbrev pub is_entered : Option Mode → Bool
is_entered (Some mode.Entered) = true
is_entered _ = false

-- its registers ask for the call
abbrev pub asks_for : ℕ → Option Regs → Bool
asks_for call None = false
asks_for call (Some registers) = a7_of registers == call

-- Of a call that is done.

-- a process that stands so has done a call, and goes on behind it next
abbrev pub is_ended : Option Mode → Bool
is_ended (Some mode.Finished) = true
is_ended _ = false

-- after an item more: the process has done this call last
abbrev pub done_last : ℕ → ℕ → Bool → Item → Bool
done_last pid call before (items.Enter p c) = before
done_last pid call before (items.Done p c result replaced) = cond (p == pid) (c.number == call) before
done_last pid call before (items.Taken p signal cause) = before
done_last pid call before (items.Stopped p signal) = before
done_last pid call before (items.Exit p word left) = before

-- of the calls that this log tells to be done, the process's last is this one; before it, it was or wasn't
unfoldable pub was_last : ℕ → ℕ → Bool → List Item → Bool
was_last pid call before [] = before
was_last pid call before (item ∷ log) = was_last pid call (done_last pid call before item) log

-- the process's register with this number has this value
abbrev pub with_register : ℕ → ℕ → Option Regs → Task UserState → Option (Task UserState)
with_register number value None task = None
with_register number value (Some registers) task = with_regs (set registers number value) task

abbrev pub writing : Run → ℕ → ℕ → ℕ → Run
writing k pid number value = with_part k pid (with_register number value (regs_of (task_in k pid)) (task_in k pid))

-- its result register, a0, has the error (syscall(2), riscv)
abbrev pub reporting : Run → ℕ → Errno → Run
reporting k pid error = writing k pid 10 (error_word error.number)

-- Of a call that is done with another count.

-- its third argument's register, a2, has this count (read(2), write(2), riscv)
abbrev pub counting : Run → ℕ → ℕ → Run
counting k pid count = writing k pid 12 count

-- after an item more: the count that the process's last entry into a call asks for
abbrev pub asked_last : ℕ → ℕ → Item → ℕ
asked_last pid before (items.Enter p c) = cond (p == pid) (argument c 2) before
asked_last pid before (items.Done p c result replaced) = before
asked_last pid before (items.Taken p signal cause) = before
asked_last pid before (items.Stopped p signal) = before
asked_last pid before (items.Exit p word left) = before

-- by this log; before it, it asked for so much
unfoldable pub last_asked : ℕ → ℕ → List Item → ℕ
last_asked pid before [] = before
last_asked pid before (item ∷ log) = last_asked pid (asked_last pid before item) log

-- the call begins with this count; once it is done, the register has again what the process asked for
abbrev pub after_short : ℕ → Run → ℕ → Run
after_short count k pid =
    cond (is_entered (mode_in k pid)) (after_turn (counting k pid count) pid)
    (after_turn (counting k pid (last_asked pid 0 k.running.log)) pid)

-- Of a process that is killed.

-- SIGKILL, number 9, is joined to the call that it has entered (signal(7))
abbrev pub killing : Choice
killing = record { result = None; signal = signal_numbered 9 }

-- In a world.

-- the error that the call has for which these registers of a process ask, after this log
abbrev pub error_asked : World → List Item → ℕ → Option Regs → Option Errno
error_asked w log pid None = None
error_asked w log pid (Some registers) =
    error_in w (call_of registers) (uses_of log pid (descriptor (call_of registers))).target

abbrev pub after_asking : Option Errno → Run → ℕ → Run
after_asking None k pid = after_turn k pid
after_asking (Some error) k pid = after_choosing k pid (failing error)

-- Of each.

-- the process has entered the call, and hasn't begun it
abbrev pub has_entered : ℕ → Run → ℕ → Bool
has_entered call k pid = is_entered (mode_in k pid) && asks_for call (regs_of (task_in k pid))

-- the process stands where its call fails: it has entered the call, or done it, or either of both
abbrev pub is_due : Kind → ℕ → Run → ℕ → Bool
is_due (kind.Undone error) call k pid = has_entered call k pid
is_due (kind.Done error) call k pid = is_ended (mode_in k pid) && was_last pid call false k.running.log
is_due (kind.Short count) call k pid =
    has_entered call k pid || (is_ended (mode_in k pid) && was_last pid call false k.running.log)
is_due kind.Killed call k pid = has_entered call k pid
is_due kind.Stop call k pid = has_entered call k pid
is_due (kind.World w) call k pid = is_entered (mode_in k pid)

-- the process of the failure has entered the call for the nth time by this log
abbrev pub has_begun : Fault → List Item → Bool
has_begun f log = nat_le f.n (entries f.pid f.call log)

-- it is the process of the failure, and its nth entry into the call; in a world it is any entry from that one on
unfoldable pub is_at : Fault → Run → ℕ → Bool
is_at f k pid =
    cond (is_world f.kind) (has_begun f k.running.log && is_due f.kind f.call k pid)
    ((pid == f.pid) && ((entries f.pid f.call k.running.log == f.n) && is_due f.kind f.call k pid))

-- everything ends there: nobody has another turn
abbrev pub ends_at : Fault → Run → ℕ → Bool
ends_at f k pid = is_stop f.kind && is_at f k pid

-- the call has the error for its result, whatever the script does to it; or has it now that it is done; or is done
-- with another count; or its process is killed; or nothing is done any more; or the call has the world's error, if it
-- has one
abbrev pub after_failing : Kind → Run → ℕ → Run
after_failing (kind.Undone error) k pid = after_choosing k pid (failing error)
after_failing (kind.Done error) k pid = after_turn (reporting k pid error) pid
after_failing (kind.Short count) k pid = after_short count k pid
after_failing kind.Killed k pid = after_choosing k pid killing
after_failing kind.Stop k pid = k
after_failing (kind.World w) k pid =
    after_asking (error_asked w k.running.log pid (regs_of (task_in k pid))) k pid

-- A turn of the kernel, but where the process stands where its call fails
abbrev pub after_fault : Fault → Run → ℕ → Run
after_fault f k pid = cond (is_at f k pid) (after_failing f.kind k pid) (after_turn k pid)
