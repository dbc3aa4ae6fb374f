use Rattle.std.proofs.Common.{List, sym, subst}
use Rattle.lx_abi.specs.declared.log.Item.{Item}
use Rattle.sweep_faults.specs.Heard.{HearsBeside}
use Rattle.sweep_trace.proofs.deep.run_shown.Goals as goal

pub run_deep-requires : goal.run_deep-requires
run_deep-requires c =
    subst (λ (log : List Item). HearsBeside c.new-calls.result c.new-heard.result log) (sym c.requires) (c.new-heard.ensures c.new-calls.result)
