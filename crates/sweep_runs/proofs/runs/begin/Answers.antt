use Rattle.std.proofs.Common.{ap, ◌∙◌}
use Rattle.lx_kernel.specs.First.{first_run}
use Rattle.sweep_runs.proofs.runs.begin.Goals as goal

pub returns-in-Ok-clause-kernel : goal.returns-in-Ok-clause-kernel
returns-in-Ok-clause-kernel c = c.in-Ok.ensures.first ∙ ap (λ boot. first_run boot c.args.script) c.in_ok-boot.ensures
