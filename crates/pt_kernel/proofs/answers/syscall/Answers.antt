use Rattle.std.proofs.Common.{ap, ◌∙◌}
use Rattle.pt_model.specs.Hosting.{released}
use Rattle.pt_kernel.proofs.Answering.{goes_on, syscall_refused, syscall_done}
use Rattle.pt_kernel.proofs.answers.syscall.Goals as goal

pub returns-then-not-resume : goal.returns-then-not-resume
returns-then-not-resume c = λ traced known b stage e.
    syscall_refused c.args.kernel.now c.args.tracees.now c.args.pid traced known b stage c.args.signal e c.resume.result c.resume.new.self c.refusal.result
    (goes_on c.args.kernel.now c.args.pid b stage c.args.signal e c.resume.result c.resume.new.self c.resume.ensures.there c.resume.ensures.part) c.if-not-resume.true c.refusal.ensures

pub returns : goal.returns
returns c = λ traced known b stage e.
    let x = c.args.tracees.now in
    syscall_done c.args.kernel.now x c.args.pid traced known b stage c.args.signal c.resume.result c.resume.new.self c.let_go.new.self
    (goes_on c.args.kernel.now c.args.pid b stage c.args.signal e c.resume.result c.resume.new.self c.resume.ensures.there c.resume.ensures.part) c.if-not-resume.false
    (c.let_go.ensures ∙ ap (λ t. record x { traced = released x.traced c.args.pid t }) known)
