use Rattle.std.proofs.Common.{false, true, sym, ap, ◌∙◌}
use Rattle.lx_model.specs.declared.stage.Task.TheVariants.{Alive}
use Rattle.lx_proc.specs.declared.state.UserState.{UserState}
use Rattle.lx_kernel.specs.Tracing.{listens_of}
use Rattle.pt_model.specs.Requests.{says}
use Rattle.pt_model.specs.Hosting.{as_proc, released}
use Rattle.lx_abi.specs.declared.ptrace.Reply.TheVariants.{Done as Agreed}
use Rattle.pt_kernel.proofs.Answering.{answer_reads, answer_sets, listens_by}
use Rattle.pt_kernel.proofs.answers.listen.Goals as goal

pub returns-then-not-listens : goal.returns-then-not-listens
returns-then-not-listens c = λ traced known b stage e.
    let t = as_proc {B = UserState} (Alive b stage) traced in
    answer_reads c.args.kernel.now c.args.tracees.now c.args.pid traced known b stage e _ c.refusal.result
    (listens_by t b stage false (sym (ap listens_of e) ∙ sym c.listens.ensures ∙ c.if-not-listens.true) ∙ ap (says t) (sym c.refusal.ensures))

pub returns : goal.returns
returns c = λ traced known b stage e.
    let x = c.args.tracees.now in
    let t = as_proc {B = UserState} (Alive b stage) traced in
    answer_sets c.args.kernel.now c.args.tracees.now c.args.pid traced known b stage e _ Agreed false traced.options c.let_go.new.self
    (listens_by t b stage true (sym (ap listens_of e) ∙ sym c.listens.ensures ∙ c.if-not-listens.false))
    (c.let_go.ensures ∙ ap (λ t. record x { traced = released x.traced c.args.pid t }) known)
