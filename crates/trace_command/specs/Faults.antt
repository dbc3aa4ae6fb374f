-- The faults of a run that isn't whole.
use Rattle.std.specs.Prelude.{◌≡◌, ◌⊎◌, ℕ, Bool, true, false, Option, Some, None, Result, Ok, Err}
use Rattle.lx_abi.specs.declared.outcome.Outcome.{Outcome}
use Rattle.front_end.specs.declared.fault.Fault.{Fault}
use Rattle.front_end.specs.declared.fault.Fault.TheVariants as the
use Rattle.front_end.specs.Statuses.{is_output_or_memory, is_usage_or_memory}
use Rattle.host_link.specs.declared.fault.LinkFault.{LinkFault}
use Rattle.host_link.specs.declared.fault.LinkFault.TheVariants as link
use Rattle.tr_core.specs.declared.tracing.TraceFault.TheVariants.{Inadmissible, Memory}
use Rattle.trace_run.specs.declared.running.Ended.{Ended}
use Rattle.trace_run.specs.declared.running.Ended.TheVariants.{Whole, OutOfTurns}
use Rattle.trace_run.specs.declared.running.RunFault.{RunFault}
use Rattle.trace_run.specs.declared.running.RunFault.TheVariants.{Link, Trace, Output}

abbrev pub host_number : Fault → Option ℕ
host_number (the.Usage text) = None
host_number (the.Expression fault reason) = None
host_number (the.Listing line kind) = None
host_number (the.Host number reason) = Some number
host_number (the.OutOfTurns text) = None
host_number (the.Output text) = None
host_number the.Memory = None

abbrev pub is_out_of_turns : Fault → Bool
is_out_of_turns (the.Usage text) = false
is_out_of_turns (the.Expression fault reason) = false
is_out_of_turns (the.Listing line kind) = false
is_out_of_turns (the.Host number reason) = false
is_out_of_turns (the.OutOfTurns text) = true
is_out_of_turns (the.Output text) = false
is_out_of_turns the.Memory = false

-- an output can't be written, or there is no memory to say which
abbrev pub IsUnwritable : Fault → Type 0
IsUnwritable fault = is_output_or_memory fault ≡ true

-- a file can't be made, or there is no memory to do it or to say which
abbrev pub IsUnopened : Fault → Type 0
IsUnopened fault = is_usage_or_memory fault ≡ true

-- a host fails, or memory is wanted
abbrev pub is_host_or_memory : Fault → Bool
is_host_or_memory (the.Usage text) = false
is_host_or_memory (the.Expression fault reason) = false
is_host_or_memory (the.Listing line kind) = false
is_host_or_memory (the.Host number reason) = true
is_host_or_memory (the.OutOfTurns text) = false
is_host_or_memory (the.Output text) = false
is_host_or_memory the.Memory = true

abbrev pub IsUnhosted : Fault → Type 0
IsUnhosted fault = is_host_or_memory fault ≡ true

-- a host's fault has its number
abbrev pub IsHostFault : LinkFault → Fault → Type 0
IsHostFault link.Ended fault = host_number fault ≡ Some 1
IsHostFault link.Read fault = host_number fault ≡ Some 2
IsHostFault link.Write fault = host_number fault ≡ Some 3
IsHostFault link.Malformed fault = host_number fault ≡ Some 4
IsHostFault link.Sequence fault = host_number fault ≡ Some 5
IsHostFault link.Inadmissible fault = host_number fault ≡ Some 6
IsHostFault link.Memory fault = fault ≡ the.Memory
IsHostFault link.TooMany fault = host_number fault ≡ Some 8

abbrev pub IsFaultOf : Result Ended RunFault → Fault → Type 0
IsFaultOf (Ok (Whole outcome)) fault = ⊥
IsFaultOf (Ok OutOfTurns) fault = fault ≡ the.OutOfTurns None
IsFaultOf (Err (Link f)) fault = IsHostFault f fault
IsFaultOf (Err (Trace Inadmissible)) fault = IsHostFault link.Inadmissible fault
IsFaultOf (Err (Trace Memory)) fault = fault ≡ the.Memory
IsFaultOf (Err Output) fault = IsUnwritable fault

-- a run that ended so has ended: it is whole, or out of turns
abbrev pub has_ended : Result Outcome Fault → Bool
has_ended (Ok outcome) = true
has_ended (Err fault) = is_out_of_turns fault
