use Rattle.std.proofs.Common.{List, sym, ap, subst}
use Rattle.lx_abi.specs.declared.log.Item.{Item}
use Rattle.lx_kernel.specs.Runs.{Run}
use Rattle.sweep_faults.specs.Heard.{HearsBeside}
use Rattle.sweep_runs.proofs.deep.run_with_log.Goals as goal

pub run_on-requires : goal.run_on-requires
run_on-requires c =
    subst (λ (log : List Item). HearsBeside c.new-calls.result c.new-heard.result log) (sym (ap (λ (k : Run). k.running.log) c.in_ok-kernel.ensures.kernel))
    (c.new-heard.ensures c.new-calls.result)
