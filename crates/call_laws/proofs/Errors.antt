-- The errors that a sweep doesn't try are those of arguments.
use Rattle.std.proofs.Common.{refl}
use Rattle.lx_fcalls.specs.Errors.{file_errors}
use Rattle.lx_pcalls.specs.Errors.{process_errors}
use Rattle.call_errors.specs.Errors.{call_errors}
use Rattle.call_laws.specs.Errors.{SweepsTryTheRest}

pub sweeps_try_the_rest : SweepsTryTheRest
unfolding file_errors process_errors call_errors
sweeps_try_the_rest = refl
