use Rattle.sweep_runs.proofs.Leaders.{compares}
use Rattle.sweep_runs.proofs.leading.Leader.reach_failing.Goals as goal

pub returns-clause-compared : goal.returns-clause-compared
returns-clause-compared c =
    compares c.args.setup.now c.args.reference.now c.args.fault c.in_ok-kernel.kernel c.compare-compared.result c.in_ok-kernel.ensures.run
    c.compare-compared.ensures.reached c.compare-compared.ensures.alike c.compare-compared.ensures.words
