-- Which errors an occurrence of a call can have, by what it is called for: those that a sound program on a sound
-- machine can meet there (the manual page of the call, ERRORS).
use Rattle.std.specs.Prelude.{ℕ, ◌==◌, ◌%◌, ◌/◌, ◌&&◌, ◌||◌, Bool, true, false, not, cond, if◌then◌else◌, List, []}
use Rattle.std.specs.Prelude.{◌∷◌, ◌++◌, length, Option, Some, None}
use Rattle.std.specs.List.{flat_map}
use Rattle.lx_abi.specs.Errnos.{enoent, esrch, eintr, eio, eagain, enomem, eacces, emfile, enospc, epipe}
use Rattle.lx_abi.specs.Errors.{errno_numbered}
use Rattle.lx_abi.specs.Sys.{sys_openat, sys_read, sys_write, sys_close, sys_brk, sys_mmap, sys_clone, sys_pipe2}
use Rattle.lx_abi.specs.Sys.{sys_unlinkat, sys_mkdirat, sys_execve, sys_newfstatat, sys_chdir}
use Rattle.lx_abi.specs.Sys.{sys_getcwd, sys_ftruncate, sys_kill, sys_wait4}
use Rattle.lx_abi.specs.declared.errno.Errno.{Errno}
use Rattle.lx_abi.specs.declared.log.Call.{Call}
use Rattle.sweep_rows.specs.Descriptors.{argument, descriptor, is_dup}
use Rattle.sweep_rows.specs.declared.descriptors.Target.{Target}
use Rattle.sweep_rows.specs.declared.descriptors.Target.TheVariants.{Input, Output, Error, File, Other}
use Rattle.sweep_rows.specs.declared.descriptors.Use.{Use}
use Rattle.sweep_rows.specs.declared.known.Occurrence.{Occurrence}

abbrev pub erofs : ℕ
erofs = 30

-- openat that may make a file, that opens one for writing, and any other
unfoldable pub opened : ℕ → List ℕ
opened flags =
    if flags / 0x40 % 2 == 1 then eacces ∷ emfile ∷ enospc ∷ erofs ∷ []
    else (if not (flags % 4 == 0) then eacces ∷ emfile ∷ erofs ∷ [] else eacces ∷ emfile ∷ [])

unfoldable pub read : Target → List ℕ
read Input = eio ∷ []
read Output = eio ∷ []
read Error = eio ∷ []
read (File at) = eio ∷ []
read Other = []

abbrev pub not_by_2 : ℕ → List ℕ
not_by_2 number = if number == 2 then [] else enospc ∷ eio ∷ []

-- none where errors are told, of which nobody can be told; one of a pipe kills a process that has set nothing for
-- SIGPIPE
unfoldable pub written : Target → ℕ → Bool → List ℕ
written Input number piped = not_by_2 number
written Output number piped = not_by_2 number
written Error number piped = []
written (File at) number piped = not_by_2 number
written Other number piped = cond piped (epipe ∷ []) []

-- a write that fails late
abbrev pub late : Bool → List ℕ
late wrote = cond wrote (enospc ∷ eio ∷ []) []

abbrev pub closed_as : Target → Bool → List ℕ
closed_as Input wrote = []
closed_as Output wrote = late wrote
closed_as Error wrote = []
closed_as (File at) wrote = late wrote
closed_as Other wrote = []

unfoldable pub closed : Use → List ℕ
closed used = closed_as used.target used.wrote

-- brk(0) asks alone
unfoldable pub usual : Call → List ℕ
usual call =
    if call.number == sys_brk then (if argument call 0 == 0 then [] else enomem ∷ [])
    else (if call.number == sys_mmap then enomem ∷ []
    else (if call.number == sys_clone then eagain ∷ enomem ∷ []
    else (if (call.number == sys_pipe2) || is_dup call.number then emfile ∷ []
    else (if call.number == sys_unlinkat then eacces ∷ erofs ∷ eio ∷ []
    else (if call.number == sys_mkdirat then eacces ∷ enospc ∷ erofs ∷ []
    else (if call.number == sys_execve then eacces ∷ enomem ∷ eio ∷ []
    else (if call.number == sys_newfstatat then eacces ∷ enomem ∷ []
    else (if call.number == sys_chdir then eacces ∷ []
    else (if call.number == sys_getcwd then enoent ∷ []
    else (if call.number == sys_ftruncate then eio ∷ []
    else (if call.number == sys_kill then esrch ∷ [] else [])))))))))))

unfoldable pub by_use : Call → Use → Bool → List ℕ
by_use call used piped =
    if call.number == sys_openat then opened (argument call 2)
    else (if call.number == sys_read then read used.target
    else (if call.number == sys_write then written used.target (descriptor call) piped
    else (if call.number == sys_close then closed used else usual call)))

abbrev pub read_may_wait : Target → Bool
read_may_wait Input = true
read_may_wait Output = false
read_may_wait Error = false
read_may_wait (File at) = false
read_may_wait Other = true

abbrev pub write_may_wait : Target → Bool
write_may_wait Input = false
write_may_wait Output = true
write_may_wait Error = false
write_may_wait (File at) = false
write_may_wait Other = true

-- a call that may wait, which a handler of a signal can interrupt
unfoldable pub may_wait : ℕ → Target → Bool
may_wait number target =
    if number == sys_read then read_may_wait target
    else (if number == sys_write then write_may_wait target else number == sys_wait4)

-- the tool's own
abbrev pub is_first_execve : Occurrence → Bool
is_first_execve o = (o.pid == 1) && ((o.call.number == sys_execve) && (o.n == 1))

abbrev pub errors_in : Option Errno → List Errno
errors_in None = []
errors_in (Some e) = e ∷ []

abbrev pub errors_numbered : ℕ → List Errno
errors_numbered n = errors_in (errno_numbered n)

abbrev pub interrupted : Bool → List Errno
interrupted b = cond b (errors_numbered eintr) []

unfoldable pub errors_of_use : Occurrence → List Errno
errors_of_use o =
    flat_map errors_numbered (by_use o.call o.used o.piped)
    ++ interrupted (may_wait o.call.number o.used.target && o.handled)

-- the errors that an occurrence can have
unfoldable pub possible_errors : Occurrence → List Errno
possible_errors o = cond (is_first_execve o) [] (errors_of_use o)

-- EIO, ENOSPC and EDQUOT
abbrev pub is_of_loss : Errno → Bool
is_of_loss e = (5 == e.number) || ((28 == e.number) || (122 == e.number))

-- an occurrence that has this error tells that data was lost: it closes what was written to
unfoldable pub tells_of_loss : Occurrence → Errno → Bool
tells_of_loss o e = (o.call.number == sys_close) && (is_of_loss e && not (length (closed o.used) == 0))
