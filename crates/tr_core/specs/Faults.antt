-- The numbers of a tracer's faults, as programs show them.
use Rattle.std.specs.Prelude.{ℕ}
use Rattle.tr_core.specs.declared.tracing.TraceFault.{TraceFault}
use Rattle.tr_core.specs.declared.tracing.TraceFault.TheVariants.{Inadmissible, Memory}

abbrev pub fault_number : TraceFault → ℕ
fault_number Inadmissible = 1
fault_number Memory = 2
