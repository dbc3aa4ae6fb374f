-- What each call on processes, memory and signals is refused with here, a row a call, in the order of the names: the
-- ERRORS of its manual page, but for EFAULT of rt_sigreturn and of wait4. A call without a row is never refused.
use Rattle.std.specs.Prelude.{ℕ, List, [], ◌∷◌}
use Rattle.lx_abi.specs.Errnos.{e2big, eacces, eagain, echild, efault, einval, enametoolong, enoent, enoexec, enomem}
use Rattle.lx_abi.specs.Errnos.{enotdir, esrch}
use Rattle.lx_abi.specs.Sys.{sys_kill, sys_rt_sigaction, sys_rt_sigprocmask, sys_rt_sigreturn, sys_munmap, sys_clone}
use Rattle.lx_abi.specs.Sys.{sys_execve, sys_mmap, sys_wait4}

unfoldable pub process_errors : List (ℕ × List ℕ)
process_errors =
    (sys_kill, einval ∷ esrch ∷ []) ∷
    (sys_rt_sigaction, efault ∷ einval ∷ []) ∷
    (sys_rt_sigprocmask, efault ∷ einval ∷ []) ∷
    (sys_rt_sigreturn, efault ∷ []) ∷
    (sys_munmap, einval ∷ []) ∷
    (sys_clone, eagain ∷ einval ∷ []) ∷
    (sys_execve, e2big ∷ eacces ∷ efault ∷ enametoolong ∷ enoent ∷ enoexec ∷ enotdir ∷ []) ∷
    (sys_mmap, einval ∷ enomem ∷ []) ∷
    (sys_wait4, echild ∷ efault ∷ einval ∷ []) ∷
    []
