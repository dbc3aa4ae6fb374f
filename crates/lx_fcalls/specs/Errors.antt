-- What each call on files is refused with here, a row a call, in the order of the names: the ERRORS of its manual page,
-- but for ENOSPC of ftruncate. EPIPE of write is a result beside SIGPIPE, and no refusal.
use Rattle.std.specs.Prelude.{ℕ, List, [], ◌∷◌}
use Rattle.lx_abi.specs.Errnos.{ebadf, ebusy, eexist, efault, efbig, einval, eisdir, emfile, enametoolong, enoent, enospc}
use Rattle.lx_abi.specs.Errnos.{enotdir, enotempty, erange, espipe}
use Rattle.lx_abi.specs.Sys.{sys_getcwd, sys_dup, sys_dup3, sys_mkdirat, sys_unlinkat, sys_ftruncate, sys_chdir}
use Rattle.lx_abi.specs.Sys.{sys_openat, sys_close, sys_pipe2, sys_lseek, sys_read, sys_write, sys_newfstatat}
use Rattle.lx_abi.specs.Sys.{sys_fstat}

unfoldable pub file_errors : List (ℕ × List ℕ)
file_errors =
    (sys_getcwd, efault ∷ erange ∷ []) ∷
    (sys_dup, ebadf ∷ emfile ∷ []) ∷
    (sys_dup3, ebadf ∷ einval ∷ []) ∷
    (sys_mkdirat, ebadf ∷ eexist ∷ efault ∷ enametoolong ∷ enoent ∷ enospc ∷ enotdir ∷ []) ∷
    (sys_unlinkat, ebadf ∷ ebusy ∷ efault ∷ einval ∷ eisdir ∷ enametoolong ∷ enoent ∷ enotdir ∷ enotempty ∷ []) ∷
    (sys_ftruncate, ebadf ∷ efbig ∷ einval ∷ enospc ∷ []) ∷
    (sys_chdir, efault ∷ enametoolong ∷ enoent ∷ enotdir ∷ []) ∷
    (sys_openat, ebadf ∷ eexist ∷ efault ∷ einval ∷ eisdir ∷ emfile ∷ enametoolong ∷ enoent ∷ enospc ∷ enotdir ∷ []) ∷
    (sys_close, ebadf ∷ []) ∷
    (sys_pipe2, efault ∷ einval ∷ emfile ∷ []) ∷
    (sys_lseek, ebadf ∷ einval ∷ espipe ∷ []) ∷
    (sys_read, ebadf ∷ efault ∷ []) ∷
    (sys_write, ebadf ∷ efault ∷ efbig ∷ enospc ∷ []) ∷
    (sys_newfstatat, ebadf ∷ efault ∷ einval ∷ enametoolong ∷ enoent ∷ enotdir ∷ []) ∷
    (sys_fstat, ebadf ∷ efault ∷ []) ∷
    []
