-- The numbers by which faults are told.
use Rattle.std.specs.Prelude.{ℕ}
use Rattle.host_serve.specs.declared.fault.ServeFault.{ServeFault}
use Rattle.host_serve.specs.declared.fault.ServeFault.TheVariants.{Read, Write, Wire, Order, Failed}

abbrev pub number_of : ServeFault → ℕ
number_of Read = 1
number_of Write = 2
number_of Wire = 3
number_of Order = 4
number_of Failed = 5
