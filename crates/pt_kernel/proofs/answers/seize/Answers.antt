use Rattle.std.proofs.Common.{sym, ap, ◌∙◌}
use Rattle.lx_kernel.specs.Tracing.{task_in}
use Rattle.pt_model.specs.Requests.{says, seize}
use Rattle.pt_model.specs.Hosting.{as_proc}
use Rattle.pt_kernel.proofs.Answering.{unseized_reads, unseized_seizes}
use Rattle.pt_kernel.proofs.answers.seize.Goals as goal

pub returns-in-None : goal.returns-in-None
returns-in-None c = λ k swept.
    let t = as_proc (task_in k c.args.pid) c.args.traced in
    unseized_reads k c.args.tracees.now c.args.pid c.args.traced c.requires swept _ c.refusal.result
    (ap (seize t) (sym c.from_bits.ensures ∙ c.in-None.is) ∙ ap (says t) (sym c.refusal.ensures))

pub returns-in_ok-seize-in-Some : goal.returns-in_ok-seize-in-Some
returns-in_ok-seize-in-Some c = λ k swept.
    let t = as_proc (task_in k c.args.pid) c.args.traced in
    unseized_seizes k c.args.tracees.now c.args.pid c.args.traced c.requires swept _ c.in-Some.options c.seize.new.self
    (ap (seize t) (sym c.from_bits.ensures ∙ c.in-Some.is)) c.in_ok-seize-in-Some.ensures
