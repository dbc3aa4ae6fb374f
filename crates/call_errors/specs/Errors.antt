-- The errors of each call that a sweep tries where none are named: of the manual page's (section 2), in the order of
-- their names, those that a program which passes sound arguments can meet.
use Rattle.std.specs.Prelude.{ℕ, ◌==◌, List, [], ◌∷◌, Option, Some, None, find}
use Rattle.std.specs.Borrow.{Bor}
use Rattle.lx_abi.specs.Errnos.{eacces, eagain, ebusy, echild, eexist, efbig, eintr, eio, emfile, enoent, enomem, enospc, epipe, espipe, esrch}
use Rattle.lx_abi.specs.Sys.{sys_getcwd, sys_dup, sys_dup3, sys_mkdirat, sys_unlinkat, sys_ftruncate}
use Rattle.lx_abi.specs.Sys.{sys_chdir, sys_openat, sys_close, sys_pipe2, sys_lseek, sys_read}
use Rattle.lx_abi.specs.Sys.{sys_write, sys_newfstatat, sys_fstat, sys_exit, sys_exit_group, sys_sched_yield}
use Rattle.lx_abi.specs.Sys.{sys_kill, sys_rt_sigaction, sys_rt_sigprocmask, sys_rt_sigreturn, sys_getpid, sys_getppid}
use Rattle.lx_abi.specs.Sys.{sys_gettid, sys_brk, sys_munmap, sys_clone, sys_execve, sys_mmap}
use Rattle.lx_abi.specs.Sys.{sys_wait4}

-- errors that no definition of a call speaks of (errno(3))
abbrev pub eperm : ℕ
eperm = 1

abbrev pub enfile : ℕ
enfile = 23

abbrev pub etxtbsy : ℕ
etxtbsy = 26

abbrev pub erofs : ℕ
erofs = 30

abbrev pub emlink : ℕ
emlink = 31

abbrev pub eoverflow : ℕ
eoverflow = 75

abbrev pub edquot : ℕ
edquot = 122

-- a call's number, and those of its errors
unfoldable pub call_errors : List (ℕ × List ℕ)
call_errors =
    (sys_getcwd, eacces ∷ enoent ∷ enomem ∷ []) ∷
    (sys_dup, emfile ∷ []) ∷
    (sys_dup3, ebusy ∷ eintr ∷ emfile ∷ []) ∷
    (sys_mkdirat, eacces ∷ edquot ∷ eexist ∷ emlink ∷ enoent ∷ enomem ∷ enospc ∷ eperm ∷ erofs ∷ []) ∷
    (sys_unlinkat, eacces ∷ ebusy ∷ eio ∷ enoent ∷ enomem ∷ eperm ∷ erofs ∷ []) ∷
    (sys_ftruncate, efbig ∷ eintr ∷ eio ∷ eperm ∷ []) ∷
    (sys_chdir, eacces ∷ eio ∷ enoent ∷ enomem ∷ []) ∷ (
      sys_openat,
      eacces ∷ edquot ∷ eexist ∷ eintr ∷ emfile ∷ enfile ∷ enoent ∷ enomem ∷ enospc ∷ eperm ∷ erofs
          ∷ etxtbsy ∷ [],
    ) ∷
    (sys_close, edquot ∷ eintr ∷ eio ∷ enospc ∷ []) ∷
    (sys_pipe2, emfile ∷ enfile ∷ []) ∷
    (sys_lseek, eoverflow ∷ espipe ∷ []) ∷
    (sys_read, eagain ∷ eintr ∷ eio ∷ []) ∷
    (sys_write, eagain ∷ edquot ∷ efbig ∷ eintr ∷ eio ∷ enospc ∷ eperm ∷ epipe ∷ []) ∷
    (sys_newfstatat, eacces ∷ enoent ∷ enomem ∷ eoverflow ∷ []) ∷
    (sys_fstat, enomem ∷ eoverflow ∷ []) ∷
    (sys_exit, []) ∷
    (sys_exit_group, []) ∷
    (sys_sched_yield, []) ∷
    (sys_kill, eperm ∷ esrch ∷ []) ∷
    (sys_rt_sigaction, []) ∷
    (sys_rt_sigprocmask, []) ∷
    (sys_rt_sigreturn, []) ∷
    (sys_getpid, []) ∷
    (sys_getppid, []) ∷
    (sys_gettid, []) ∷
    (sys_brk, enomem ∷ []) ∷
    (sys_munmap, enomem ∷ []) ∷
    (sys_clone, eagain ∷ enomem ∷ []) ∷
    (sys_execve, eacces ∷ eagain ∷ eio ∷ emfile ∷ enfile ∷ enoent ∷ enomem ∷ eperm ∷ etxtbsy ∷ []) ∷
    (sys_mmap, eacces ∷ eagain ∷ enfile ∷ enomem ∷ eperm ∷ []) ∷
    (sys_wait4, echild ∷ eintr ∷ []) ∷
    []

abbrev pub error_row : ℕ × Bor (List ℕ) → ℕ × List ℕ
error_row row = (row.0, row.1.now)

abbrev pub listed_in : Option (ℕ × List ℕ) → List ℕ
listed_in None = []
listed_in (Some row) = row.1

-- the errors of the call with this number
unfoldable pub errors_listed : ℕ → List ℕ
errors_listed number = listed_in (find (λ row. row.0 == number) call_errors)
