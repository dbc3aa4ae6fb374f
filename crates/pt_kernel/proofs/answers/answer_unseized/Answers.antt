use Rattle.std.proofs.Common.{sym, ap, subst, ◌∙◌}
use Rattle.lx_kernel.specs.Tracing.{task_in}
use Rattle.pt_model.specs.Requests.{Answered, says}
use Rattle.pt_model.specs.Hosting.{as_proc}
use Rattle.lx_proc.specs.declared.state.UserState.{UserState}
use Rattle.pt_kernel.specs.Hosts.{IsAnswer}
use Rattle.pt_kernel.proofs.Answering.{unseized_reads, not_seized, is_seized}
use Rattle.pt_kernel.proofs.answers.answer_unseized.Goals as goal

pub returns-in-None : goal.returns-in-None
returns-in-None c = λ k swept.
    let t = as_proc (task_in k c.args.pid) c.args.traced in
    unseized_reads k c.args.tracees.now c.args.pid c.args.traced c.requires swept _ c.refusal.result
    (not_seized t c.args.ask.now (sym c.seize_options.ensures ∙ c.in-None.is) ∙ ap (says t) (sym c.refusal.ensures))

pub returns-in_ok-reply-in-Some : goal.returns-in_ok-reply-in-Some
returns-in_ok-reply-in-Some c = λ k swept.
    let t = as_proc (task_in k c.args.pid) c.args.traced in
    subst (λ (a : Answered UserState). IsAnswer k c.args.tracees.now c.args.pid c.args.traced.message a c.in_ok-reply-in-Some.reply k c.seize.new.tracees)
    (sym (is_seized t c.args.ask.now c.in-Some.options (sym c.seize_options.ensures ∙ c.in-Some.is))) (c.in_ok-reply-in-Some.ensures k swept)
