-- Calls as strace(1) shows them.
use Rattle.std.specs.Prelude.{ℕ, false, Option, Some, None, List, ◌++◌, codes}
use Rattle.std.specs.Fmt.{digits}
use Rattle.lx_abi.specs.Calls.{call_name}

abbrev pub name_by : ℕ → Option (List ℕ) → List ℕ
name_by number None = codes "syscall_" ++ (codes "0x" ++ digits 16 false number)
name_by number (Some name) = name

-- the name of a call, or its number
abbrev pub name_text : ℕ → List ℕ
name_text number = name_by number (call_name number)
