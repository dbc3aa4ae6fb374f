-- A run with a failure, as it is shown.
use Rattle.std.specs.Prelude.{◌≡◌}
use Rattle.lx_kernel.specs.Runs.{Run}
use Rattle.sweep_faults.specs.declared.deep.Deep.{Deep}
use Rattle.sweep_faults.specs.declared.faults.Fault.{Fault}
use Rattle.sweep_runs.specs.Deep.{DeepComesTo}
use Rattle.sweep_runs.specs.Runs.{FaultComesTo}
use Rattle.sweep_rows.specs.declared.setup.Setup.{Setup}
use Rattle.sweep_trace.specs.declared.failing.ShownRun.{ShownRun}

-- the console is that of the run in which this call of this process fails
pub record IsShown (setup : Setup) (fault : Fault) (shown : ShownRun) : Type 0 where
  pub kernel : Run
  pub run : FaultComesTo setup fault kernel
  pub console : shown.console ≡ kernel.running.shared.console

-- .. or that of the run in which these two calls fail
pub record IsShownDeep (setup : Setup) (deep : Deep) (shown : ShownRun) : Type 0 where
  pub kernel : Run
  pub run : DeepComesTo setup deep kernel
  pub console : shown.console ≡ kernel.running.shared.console
