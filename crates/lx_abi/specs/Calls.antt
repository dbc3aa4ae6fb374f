-- The calls of the profile: numbers (the generic table of Linux), names, classes (strace(1), Filtering), effects,
-- and how their arguments are shown.
use Rattle.std.specs.Prelude.{ℕ, ◌+◌, ◌==◌, ◌&&◌, Bool, List, [], ◌∷◌, Option, Some, None, option_map, find, codes, if◌then◌else◌}
use Rattle.std.specs.Int.RustNames.{bit_and}
use Rattle.std.specs.List.{list_any}
use Rattle.std.specs.Str.{bytes_eq}
use Rattle.lx_abi.specs.declared.calls.Class.{Class}
use Rattle.lx_abi.specs.declared.calls.Class.TheVariants.{File, Descriptor, Process, Signal, Memory}
use Rattle.lx_abi.specs.declared.calls.Argument.{Argument}
use Rattle.lx_abi.specs.declared.calls.Argument.TheVariants.{Int, Long, Unsigned, Pointer, Hex, Octal, Path, Bytes, Directory, SignalNumber, OpenFlags, CreationMode, CloseOnExec, StatFlags, Protection, MapFlags, WaitOptions, UnlinkFlags, Whence, MaskChange, Strings, Environment, Action, SignalSet, Stat, DescriptorPair, WaitStatus, FrameMask, ChildStack, CloneFlags}
use Rattle.lx_abi.specs.Effects.{plain, waits, forks, execs, exits, hex, calm}
use Rattle.lx_abi.specs.Sys.{sys_getcwd, sys_dup, sys_dup3, sys_mkdirat, sys_unlinkat, sys_ftruncate}
use Rattle.lx_abi.specs.Sys.{sys_chdir, sys_openat, sys_close, sys_pipe2, sys_lseek, sys_read, sys_write}
use Rattle.lx_abi.specs.Sys.{sys_newfstatat, sys_fstat, sys_exit, sys_exit_group, sys_sched_yield, sys_kill}
use Rattle.lx_abi.specs.Sys.{sys_rt_sigaction, sys_rt_sigprocmask, sys_rt_sigreturn, sys_getpid}
use Rattle.lx_abi.specs.Sys.{sys_getppid, sys_gettid, sys_brk, sys_munmap, sys_clone, sys_execve, sys_mmap}
use Rattle.lx_abi.specs.Sys.{sys_wait4}

-- number, name, classes, effects, the arguments of the entry text, and those shown once the call has returned
abbrev pub Row : Type 0
Row = ℕ × List ℕ × List Class × ℕ × List Argument × List Argument

-- a set of signals by its address, and its size
abbrev pub sized_set : List Argument
sized_set = SignalSet ∷ Unsigned ∷ []

-- all six words of mmap
abbrev pub mapping : List Argument
mapping = Pointer ∷ Unsigned ∷ Protection ∷ MapFlags ∷ Int ∷ Hex ∷ []

unfoldable pub calls : List Row
calls =
    (sys_getcwd, codes "getcwd", File ∷ [], plain, [], Path ∷ Unsigned ∷ []) ∷
    (sys_dup, codes "dup", Descriptor ∷ [], plain, Int ∷ [], []) ∷
    (sys_dup3, codes "dup3", Descriptor ∷ [], plain, Int ∷ Int ∷ CloseOnExec ∷ [], []) ∷
    (sys_mkdirat, codes "mkdirat", File ∷ Descriptor ∷ [], plain, Directory ∷ Path ∷ Octal ∷ [], []) ∷
    (sys_unlinkat, codes "unlinkat", File ∷ Descriptor ∷ [], plain, Directory ∷ Path ∷ UnlinkFlags ∷ [], []) ∷
    (sys_ftruncate, codes "ftruncate", Descriptor ∷ [], plain, Int ∷ Long ∷ [], []) ∷
    (sys_chdir, codes "chdir", File ∷ [], plain, Path ∷ [], []) ∷
    (sys_openat, codes "openat", File ∷ Descriptor ∷ [], plain, Directory ∷ Path ∷ OpenFlags ∷ CreationMode ∷ [], []) ∷
    (sys_close, codes "close", Descriptor ∷ [], plain, Int ∷ [], []) ∷
    (sys_pipe2, codes "pipe2", Descriptor ∷ [], plain, [], DescriptorPair ∷ CloseOnExec ∷ []) ∷
    (sys_lseek, codes "lseek", Descriptor ∷ [], plain, Int ∷ Long ∷ Whence ∷ [], []) ∷
    (sys_read, codes "read", Descriptor ∷ [], waits, Int ∷ [], Bytes ∷ Unsigned ∷ []) ∷
    (sys_write, codes "write", Descriptor ∷ [], waits, Int ∷ Bytes ∷ Unsigned ∷ [], []) ∷
    (sys_newfstatat, codes "newfstatat", File ∷ Descriptor ∷ [], plain, Directory ∷ Path ∷ [], Stat ∷ StatFlags ∷ []) ∷
    (sys_fstat, codes "fstat", Descriptor ∷ [], plain, Int ∷ [], Stat ∷ []) ∷
    (sys_exit, codes "exit", Process ∷ [], exits, Int ∷ [], []) ∷
    (sys_exit_group, codes "exit_group", Process ∷ [], exits, Int ∷ [], []) ∷
    (sys_sched_yield, codes "sched_yield", [], calm, [], []) ∷
    (sys_kill, codes "kill", Signal ∷ [], plain, Int ∷ SignalNumber ∷ [], []) ∷
    (sys_rt_sigaction, codes "rt_sigaction", Signal ∷ [], calm, SignalNumber ∷ Action ∷ [], Action ∷ Unsigned ∷ []) ∷
    (sys_rt_sigprocmask, codes "rt_sigprocmask", Signal ∷ [], calm, MaskChange ∷ SignalSet ∷ [], sized_set) ∷
    (sys_rt_sigreturn, codes "rt_sigreturn", Signal ∷ [], calm, FrameMask ∷ [], []) ∷
    (sys_getpid, codes "getpid", [], calm, [], []) ∷
    (sys_getppid, codes "getppid", [], calm, [], []) ∷
    (sys_gettid, codes "gettid", [], calm, [], []) ∷
    (sys_brk, codes "brk", Memory ∷ [], hex + calm, Pointer ∷ [], []) ∷
    (sys_munmap, codes "munmap", Memory ∷ [], calm, Pointer ∷ Unsigned ∷ [], []) ∷
    (sys_clone, codes "clone", Process ∷ [], forks, ChildStack ∷ CloneFlags ∷ [], []) ∷
    (sys_execve, codes "execve", File ∷ Process ∷ [], execs, Path ∷ Strings ∷ Environment ∷ [], []) ∷
    (sys_mmap, codes "mmap", Descriptor ∷ Memory ∷ [], hex + calm, mapping, []) ∷
    (sys_wait4, codes "wait4", Process ∷ [], waits + calm, Int ∷ [], WaitStatus ∷ WaitOptions ∷ Pointer ∷ []) ∷
    []

-- the number of the call with this name
unfoldable pub call_number : List ℕ → Option ℕ
call_number name = option_map (λ row. row.0) (find (λ row. bytes_eq row.1 name) calls)

-- the name of the call with this number
unfoldable pub call_name : ℕ → Option (List ℕ)
call_name number = option_map (λ row. row.1) (find (λ row. row.0 == number) calls)

-- the classes that the call with this number is in
unfoldable pub call_classes : ℕ → Option (List Class)
call_classes number = option_map (λ row. row.2) (find (λ row. row.0 == number) calls)

-- a row of this number has all of these effects
abbrev pub some_has : List Row → ℕ → ℕ → Bool
some_has rows number effects =
    list_any (λ row. (bit_and row.3 effects == effects) && (number == row.0)) rows

-- the call with this number has all of these effects
unfoldable pub has_effects : ℕ → ℕ → Bool
has_effects number effects = some_has calls number effects

-- the arguments of the entry text, and those shown after the call, of the call with this number
unfoldable pub call_format : ℕ → Option (List Argument × List Argument)
call_format number = option_map (λ row. (row.4, row.5)) (find (λ row. row.0 == number) calls)

-- the class of this name, which stands behind the % (strace(1), Filtering)
abbrev pub class_named : List ℕ → Option Class
class_named name =
    if bytes_eq name (codes "file") then Some File
    else (if bytes_eq name (codes "desc") then Some Descriptor
    else (if bytes_eq name (codes "process") then Some Process
    else (if bytes_eq name (codes "signal") then Some Signal
    else (if bytes_eq name (codes "memory") then Some Memory else None))))
