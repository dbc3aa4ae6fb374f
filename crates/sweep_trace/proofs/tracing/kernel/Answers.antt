use Rattle.std.proofs.Common.{List, ap, ◌∙◌}
use Rattle.lx_abi.specs.declared.script.Rule.{Rule}
use Rattle.lx_kernel.specs.First.{first_run_without_log}
use Rattle.lx_kernel.specs.Runs.{Run}
use Rattle.sweep_trace.proofs.tracing.kernel.Goals as goal

pub returns-in-Ok-clause-first : goal.returns-in-Ok-clause-first
returns-in-Ok-clause-first c =
    c.in-Ok.ensures.first
    ∙ ap (λ boot. first_run_without_log boot c.empty.result) c.in_ok-boot.ensures
    ∙ ap (λ (script : List Rule). first_run_without_log c.args.boot.now script) c.empty.ensures

pub returns-in-Ok-clause-log : goal.returns-in-Ok-clause-log
returns-in-Ok-clause-log c = ap (λ (k : Run). k.running.log) c.in-Ok.ensures.first
