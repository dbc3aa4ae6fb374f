use Rattle.std.proofs.Common.{List, sym, subst}
use Rattle.lx_abi.specs.declared.log.Item.{Item}
use Rattle.sweep_faults.specs.Heard.{HearsBeside}
use Rattle.sweep_faults.proofs.moving.advance.Goals as goal

pub returns-in-Ok-hear-clause-heard : goal.returns-in-Ok-hear-clause-heard
returns-in-Ok-hear-clause-heard g c =
    subst (λ (log : List Item). HearsBeside c.args.calls.now c.hear.new.self log) (sym c.in-Ok.ensures.logged)
    (c.in-Ok-hear.ensures c.args.kernel.now.running.log c.requires.heard)
