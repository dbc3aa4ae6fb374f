use Rattle.std.proofs.Common.{List, ap, ◌∙◌}
use Rattle.lx_abi.specs.declared.script.Rule.{Rule}
use Rattle.lx_kernel.specs.First.{first_run_without_log}
use Rattle.sweep_runs.proofs.runs.begin_without_log.Goals as goal

pub returns-in-Ok-clause-kernel : goal.returns-in-Ok-clause-kernel
returns-in-Ok-clause-kernel c =
    c.in-Ok.ensures.first
    ∙ ap (λ boot. first_run_without_log boot c.empty.result) c.in_ok-boot.ensures
    ∙ ap (λ (script : List Rule). first_run_without_log c.args.setup.now.boot script) c.empty.ensures
