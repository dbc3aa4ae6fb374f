-- The calls on files by number; none where it is another's.
use Rattle.std.specs.Prelude.{ℕ, ◌==◌, Option, Some, None, if◌then◌else◌}
use Rattle.lx_abi.specs.declared.log.Call.{Call}
use Rattle.lx_abi.specs.Sys.{sys_getcwd, sys_dup, sys_dup3, sys_mkdirat, sys_unlinkat, sys_ftruncate}
use Rattle.lx_abi.specs.Sys.{sys_chdir, sys_openat, sys_close, sys_pipe2, sys_lseek, sys_read, sys_write}
use Rattle.lx_abi.specs.Sys.{sys_newfstatat, sys_fstat}
use Rattle.lx_proc.specs.Answers.{Answers}
use Rattle.lx_proc.specs.declared.state.UserState.{UserState}
use Rattle.lx_proc.specs.declared.state.Shared.{Shared}
use Rattle.lx_fcalls.specs.Chdir.{chdir}
use Rattle.lx_fcalls.specs.Close.{close}
use Rattle.lx_fcalls.specs.Dup.{dup}
use Rattle.lx_fcalls.specs.Dup3.{dup3}
use Rattle.lx_fcalls.specs.Fstat.{fstat}
use Rattle.lx_fcalls.specs.Ftruncate.{ftruncate}
use Rattle.lx_fcalls.specs.Getcwd.{getcwd}
use Rattle.lx_fcalls.specs.Lseek.{lseek}
use Rattle.lx_fcalls.specs.Mkdirat.{mkdirat}
use Rattle.lx_fcalls.specs.Newfstatat.{newfstatat}
use Rattle.lx_fcalls.specs.Openat.{openat}
use Rattle.lx_fcalls.specs.Pipe2.{pipe2}
use Rattle.lx_fcalls.specs.Read.{read}
use Rattle.lx_fcalls.specs.Unlinkat.{unlinkat}
use Rattle.lx_fcalls.specs.Write.{write}

unfoldable pub file_call : Shared → ℕ → Call → UserState → Option Answers
file_call s p call b =
    if call.number == sys_getcwd then Some (getcwd s p call b)
    else if call.number == sys_dup then Some (dup s p call b)
    else if call.number == sys_dup3 then Some (dup3 s p call b)
    else if call.number == sys_mkdirat then Some (mkdirat s p call b)
    else if call.number == sys_unlinkat then Some (unlinkat s p call b)
    else if call.number == sys_ftruncate then Some (ftruncate s p call b)
    else if call.number == sys_chdir then Some (chdir s p call b)
    else if call.number == sys_openat then Some (openat s p call b)
    else if call.number == sys_close then Some (close s p call b)
    else if call.number == sys_pipe2 then Some (pipe2 s p call b)
    else if call.number == sys_lseek then Some (lseek s p call b)
    else if call.number == sys_read then Some (read s p call b)
    else if call.number == sys_write then Some (write s p call b)
    else if call.number == sys_newfstatat then Some (newfstatat s p call b)
    else if call.number == sys_fstat then Some (fstat s p call b)
    else None
