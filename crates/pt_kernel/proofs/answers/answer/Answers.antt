use Rattle.std.proofs.Common.{sym, ap, ◌∙◌}
use Rattle.lx_kernel.specs.Runs.{Run as KernelRun}
use Rattle.lx_kernel.specs.Tracing.{task_in}
use Rattle.pt_kernel.proofs.Answering.{alive_is}
use Rattle.pt_kernel.proofs.answers.answer.Goals as goal

pub returns-in_ok-reply-in-Some-clause-script : goal.returns-in_ok-reply-in-Some-clause-script
returns-in_ok-reply-in-Some-clause-script c =
    let a = alive_is (task_in c.args.kernel.now c.args.pid) (sym c.is_alive.ensures ∙ c.if-not-is_alive.false) in
    let h = c.in_ok-reply-in-Some.ensures a.0 a.1.0 a.1.1 in
    (ap (λ (k : KernelRun). k.script) h.kernel, ap (λ (k : KernelRun). k.follow) h.kernel)
