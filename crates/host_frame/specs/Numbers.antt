-- The numbers by which faults are told.
use Rattle.std.specs.Prelude.{ℕ}
use Rattle.host_frame.specs.declared.fault.WireFault.{WireFault}
use Rattle.host_frame.specs.declared.fault.WireFault.TheVariants.{Length, Kind, Payload, Memory}

abbrev pub number_of : WireFault → ℕ
number_of Length = 1
number_of Kind = 2
number_of Payload = 3
number_of Memory = 4
