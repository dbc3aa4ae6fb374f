use Rattle.std.proofs.Common.{ap, ◌∙◌}
use Rattle.rv_hart.specs.Steps.{outcome}
use Rattle.lx_turn.proofs.Resuming.{stepped_call, stepped_fault}
use Rattle.lx_turn.proofs.stages.step_on.Goals as goal

pub returns-in-Call : goal.returns-in-Call
returns-in-Call c = λ s.
    stepped_call s c.args.pid c.args.user.now c.step.new.hart c.step.new.space c.call-call.result (c.in_ok-step.ensures.ok ∙ ap (λ t. outcome t c.step.new.hart c.step.new.space) c.in-Call.is) c.call-call.ensures

pub returns-in-Fault : goal.returns-in-Fault
returns-in-Fault c = λ s. rw (c.requires.nothing) (
    stepped_fault s c.args.pid c.args.user.now c.step.new.hart c.step.new.space c.in-Fault.kind c.in-Fault.address c.code.result c.fault_signal-signal.result (c.in_ok-step.ensures.ok ∙ ap (λ t. outcome t c.step.new.hart c.step.new.space) c.in-Fault.is) c.fault_signal-signal.ensures c.code.ensures)
