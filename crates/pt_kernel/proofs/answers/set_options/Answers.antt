use Rattle.std.proofs.Common.{sym, ap, ◌∙◌, Some}
use Rattle.lx_model.specs.declared.stage.Task.TheVariants.{Alive}
use Rattle.lx_proc.specs.declared.state.UserState.{UserState}
use Rattle.pt_model.specs.Requests.{says, set_options}
use Rattle.pt_model.specs.Hosting.{as_proc}
use Rattle.lx_abi.specs.declared.ptrace.Reply.TheVariants.{Done as Agreed}
use Rattle.pt_kernel.proofs.Answering.{answer_reads, answer_sets}
use Rattle.pt_kernel.proofs.answers.set_options.Goals as goal

pub returns-in-None : goal.returns-in-None
returns-in-None c = λ b stage e.
    let t = as_proc {B = UserState} (Alive b stage) c.args.traced in
    answer_reads c.args.kernel.now c.args.tracees.now c.args.pid c.args.traced c.requires b stage e _ c.refusal.result
    (ap (set_options t) (sym c.from_bits.ensures ∙ c.in-None.is) ∙ ap (says t) (sym c.refusal.ensures))

pub returns-in_ok-set-in-Some : goal.returns-in_ok-set-in-Some
returns-in_ok-set-in-Some c = λ b stage e.
    let t = as_proc {B = UserState} (Alive b stage) c.args.traced in
    answer_sets c.args.kernel.now c.args.tracees.now c.args.pid c.args.traced c.requires b stage e _ Agreed c.args.traced.held (Some c.in-Some.options) c.set.new.self
    (ap (set_options t) (sym c.from_bits.ensures ∙ c.in-Some.is)) c.in_ok-set-in-Some.ensures
