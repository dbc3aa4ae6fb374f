-- The calls on processes, memory and signals by number; none where it is another's.
use Rattle.std.specs.Prelude.{ℕ, ◌==◌, Bool, false, Option, Some, None, if◌then◌else◌}
use Rattle.lx_abi.specs.declared.log.Call.{Call}
use Rattle.lx_abi.specs.Sys.{sys_exit, sys_exit_group, sys_sched_yield, sys_kill, sys_rt_sigaction}
use Rattle.lx_abi.specs.Sys.{sys_rt_sigprocmask, sys_rt_sigreturn, sys_getpid, sys_getppid, sys_gettid}
use Rattle.lx_abi.specs.Sys.{sys_brk, sys_munmap, sys_clone, sys_execve, sys_mmap, sys_wait4}
use Rattle.lx_proc.specs.declared.state.Shared.{Shared}
use Rattle.lx_proc.specs.declared.state.UserState.{UserState}
use Rattle.lx_proc.specs.Answers.{Answers, is_blocked}
use Rattle.lx_pcalls.specs.Exit.{exit}
use Rattle.lx_pcalls.specs.SchedYield.{sched_yield}
use Rattle.lx_pcalls.specs.Kill.{kill}
use Rattle.lx_pcalls.specs.RtSigaction.{rt_sigaction}
use Rattle.lx_pcalls.specs.RtSigprocmask.{rt_sigprocmask}
use Rattle.lx_pcalls.specs.RtSigreturn.{rt_sigreturn}
use Rattle.lx_pcalls.specs.Getpid.{getpid}
use Rattle.lx_pcalls.specs.Getppid.{getppid}
use Rattle.lx_pcalls.specs.Brk.{brk}
use Rattle.lx_pcalls.specs.Munmap.{munmap}
use Rattle.lx_pcalls.specs.Clone.{clone}
use Rattle.lx_exec.specs.Execve.{execve}
use Rattle.lx_pcalls.specs.Mmap.{mmap}
use Rattle.lx_pcalls.specs.Wait4.{wait4, wait4_would_block}

-- a child that the call makes has the pid that is handed in
unfoldable pub process_call : Shared → ℕ → ℕ → Call → UserState → Option Answers
process_call s child p call b =
    if call.number == sys_exit then Some (exit call)
    else if call.number == sys_exit_group then Some (exit call)
    else if call.number == sys_sched_yield then Some (sched_yield s b)
    else if call.number == sys_kill then Some (kill s p call b)
    else if call.number == sys_rt_sigaction then Some (rt_sigaction s p call b)
    else if call.number == sys_rt_sigprocmask then Some (rt_sigprocmask s p call b)
    else if call.number == sys_rt_sigreturn then Some (rt_sigreturn s p b)
    else if call.number == sys_getpid then Some (getpid s p b)
    else if call.number == sys_getppid then Some (getppid s p b)
    else if call.number == sys_gettid then Some (getpid s p b)
    else if call.number == sys_brk then Some (brk s call b)
    else if call.number == sys_munmap then Some (munmap s call b)
    else if call.number == sys_clone then Some (clone s child p call b)
    else if call.number == sys_execve then Some (execve s p call b)
    else if call.number == sys_mmap then Some (mmap s call b)
    else if call.number == sys_wait4 then Some (wait4 s p call b)
    else None

-- no other of them blocks
unfoldable pub would_block : Shared → ℕ → Call → Bool
would_block s p call = if call.number == sys_wait4 then wait4_would_block s p call else false

-- whether an answer, if there is one, is that the call blocks
abbrev pub is_blocked_if : Option Answers → Bool
is_blocked_if None = false
is_blocked_if (Some answer) = is_blocked answer
