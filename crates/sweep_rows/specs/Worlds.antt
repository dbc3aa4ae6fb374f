-- Worlds in which calls of every process fail: the disk is full, or broken, or can only be read, or there are no more
-- descriptors, or no more memory. What an error is told by goes on: a console, and pipes.
use Rattle.std.specs.Prelude.{ℕ, ◌==◌, ◌%◌, ◌/◌, ◌&&◌, ◌||◌, Bool, true, false, not, cond, if◌then◌else◌, Option, None}
use Rattle.lx_abi.specs.Errnos.{eio, enomem, emfile, enospc}
use Rattle.lx_abi.specs.Errors.{errno_numbered}
use Rattle.lx_abi.specs.Sys.{sys_brk, sys_clone, sys_dup, sys_ftruncate, sys_mkdirat, sys_mmap, sys_openat, sys_pipe2}
use Rattle.lx_abi.specs.Sys.{sys_read, sys_unlinkat, sys_write}
use Rattle.lx_abi.specs.declared.errno.Errno.{Errno}
use Rattle.lx_abi.specs.declared.log.Call.{Call}
use Rattle.sweep_rows.specs.Descriptors.{argument}
use Rattle.sweep_rows.specs.Possible.{erofs}
use Rattle.sweep_rows.specs.declared.descriptors.Target.{Target}
use Rattle.sweep_rows.specs.declared.descriptors.Target.TheVariants.{Input, Output, Error, File, Other}
use Rattle.sweep_rows.specs.declared.worlds.World.{World}
use Rattle.sweep_rows.specs.declared.worlds.World.TheVariants.{Full, Broken, ReadOnly, NoFiles, NoMemory}

abbrev pub is_file : Target → Bool
is_file Input = false
is_file Output = false
is_file Error = false
is_file (File at) = true
is_file Other = false

-- O_CREAT: a file may be made (open(2))
abbrev pub may_make : ℕ → Bool
may_make flags = flags / 0x40 % 2 == 1

-- O_EXCL beside it: the name must be a new one
abbrev pub must_make : ℕ → Bool
must_make flags = may_make flags && (flags / 0x80 % 2 == 1)

-- it writes to a file, or makes a name that must be new (write(2), open(2), mkdir(2))
unfoldable pub takes_room : Call → Target → Bool
takes_room call target =
    if call.number == sys_write then is_file target
    else (if call.number == sys_openat then must_make (argument call 2) else call.number == sys_mkdirat)

-- it reads or writes a file
unfoldable pub transfers : Call → Target → Bool
transfers call target = ((call.number == sys_read) || (call.number == sys_write)) && is_file target

-- it writes to a file or sets its length, opens one to do so, or makes or removes a name
unfoldable pub changes : Call → Target → Bool
changes call target =
    if call.number == sys_write then is_file target
    else (if call.number == sys_openat then may_make (argument call 2) || not (argument call 2 % 4 == 0)
    else (call.number == sys_mkdirat) || ((call.number == sys_unlinkat) || (call.number == sys_ftruncate)))

-- it has a descriptor for its result that it chooses itself: dup3 is given one
unfoldable pub takes_descriptor : Call → Bool
takes_descriptor call = (call.number == sys_openat) || ((call.number == sys_pipe2) || (call.number == sys_dup))

-- brk(0) asks alone
unfoldable pub takes_memory : Call → Bool
takes_memory call =
    if call.number == sys_brk then not (argument call 0 == 0)
    else (call.number == sys_mmap) || (call.number == sys_clone)

-- the world has this call fail, whose descriptor stands for this
abbrev pub forbids : World → Call → Target → Bool
forbids Full call target = takes_room call target
forbids Broken call target = transfers call target
forbids ReadOnly call target = changes call target
forbids NoFiles call target = takes_descriptor call
forbids NoMemory call target = takes_memory call

abbrev pub number_of : World → ℕ
number_of Full = enospc
number_of Broken = eio
number_of ReadOnly = erofs
number_of NoFiles = emfile
number_of NoMemory = enomem

-- the error that a call has there
unfoldable pub error_in : World → Call → Target → Option Errno
error_in world call target = cond (forbids world call target) (errno_numbered (number_of world)) None
