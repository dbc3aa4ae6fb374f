use Rattle.std.proofs.Common.{subst}
use Rattle.tr_core.specs.States.{admitted}
use Rattle.tr_core.specs.Tracers.{Steps, state_of}
use Rattle.tr_core.proofs.Steps.{hears_ok, hears_refusal, hears_want, hears_again}
use Rattle.tr_core.proofs.tracer.TracerTracing.next.Goals as goal

pub returns-then-self : goal.returns-then-self
unfolding state_of
returns-then-self c = hears_again c.args.self.now.taken c.args.self.now.core c.args.self.now.failed c.args.reply c.if-self.true

pub returns-in-Ok : goal.returns-in-Ok
unfolding state_of
returns-in-Ok c =
    let old = c.args.self.now.core in
    let taken = c.args.self.now.taken in
    hears_ok taken old c.step.new.core c.args.self.now.failed c.args.reply c.in-Ok-Some.bytes c.in-Ok.act c.if-self.false
    (subst (λ o. Steps taken old c.args.reply o c.step.new.core) c.in-Ok-Some.field-0-is (c.in-Ok-Some.ensures.step taken))
    c.in-Ok.ensures

pub returns-in-Err-act : goal.returns-in-Err-act
unfolding state_of admitted
returns-in-Err-act c =
    let old = c.args.self.now.core in
    let taken = c.args.self.now.taken in
    let h = subst (λ o. Steps taken old c.args.reply o c.step.new.core) c.in-Ok-Some.field-0-is (c.in-Ok-Some.ensures.step taken) in
    hears_want taken old c.step.new.core c.args.self.now.failed c.args.reply h.1

pub returns-in-Ok-None : goal.returns-in-Ok-None
unfolding state_of
returns-in-Ok-None c =
    let old = c.args.self.now.core in
    let taken = c.args.self.now.taken in
    hears_refusal taken old c.step.new.core c.args.self.now.failed c.args.reply c.if-self.false
    (subst (λ o. Steps taken old c.args.reply o c.step.new.core) c.in-Ok-None.field-0-is (c.in-Ok-None.ensures.step taken))

pub returns-in-Err : goal.returns-in-Err
unfolding state_of
returns-in-Err c =
    hears_want c.args.self.now.taken c.args.self.now.core c.step.new.core c.args.self.now.failed c.args.reply
    c.in-Err.ensures.admitted

pub step-requires : goal.step-requires
step-requires c = c.args.self.now.held c.if-self.false
