use Rattle.lx_model.proofs.Bridge.{run_is, kernels_begin_alike}
use Rattle.lx_model.proofs.laws.kernels_run_alike.Goals as goal

pub returns-clause-begin : goal.returns-clause-begin
returns-clause-begin g c = λ s. kernels_begin_alike s

pub returns-clause-run : goal.returns-clause-run
returns-clause-run g c = λ m script follow. run_is m script follow
