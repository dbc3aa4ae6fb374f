use Rattle.std.proofs.Common.{List, subst}
use Rattle.lx_abi.specs.declared.log.Item.{Item}
use Rattle.sweep_rows.specs.Calls.{AreCalls}
use Rattle.sweep_runs.proofs.Comparing.{deep_compares}
use Rattle.sweep_runs.proofs.deep.reach_deep.Goals as goal

pub compare-compared-requires-clause-calls : goal.compare-compared-requires-clause-calls
compare-compared-requires-clause-calls c =
    subst (λ (log : List Item). AreCalls c.in_ok-calls.calls log) c.in_ok-log.ensures c.in_ok-calls.ensures

pub returns : goal.returns
returns c =
    deep_compares c.args.setup.now c.args.reference.now c.args.case c.deep.result c.fault_of-second.result c.in_ok-kernel.kernel c.compare-compared.result
    c.deep.ensures c.fault_of-second.ensures c.in_ok-kernel.ensures.run
    c.compare-compared.ensures.reached c.compare-compared.ensures.alike c.compare-compared.ensures.words
