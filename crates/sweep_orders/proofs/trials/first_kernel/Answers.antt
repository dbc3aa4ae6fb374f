use Rattle.std.proofs.Common.{ap, ◌∙◌}
use Rattle.lx_abi.specs.declared.boot.Boot.{Boot}
use Rattle.lx_kernel.specs.First.{first_run}
use Rattle.sweep_orders.proofs.trials.first_kernel.Goals as goal

pub returns-in-Ok : goal.returns-in-Ok
returns-in-Ok c =
    c.in-Ok.ensures.first ∙ ap (λ (boot : Boot). first_run boot c.empty.result) c.in_ok-boot.ensures
    ∙ ap (first_run c.args.setup.now.boot) c.empty.ensures
