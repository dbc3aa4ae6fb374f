-- The numbers of a link's faults, as programs show them.
use Rattle.std.specs.Prelude.{ℕ}
use Rattle.host_link.specs.declared.fault.LinkFault.{LinkFault}
use Rattle.host_link.specs.declared.fault.LinkFault.TheVariants as fault

abbrev pub fault_number : LinkFault → ℕ
fault_number fault.Ended = 1
fault_number fault.Read = 2
fault_number fault.Write = 3
fault_number fault.Malformed = 4
fault_number fault.Sequence = 5
fault_number fault.Inadmissible = 6
fault_number fault.Memory = 7
fault_number fault.TooMany = 8
