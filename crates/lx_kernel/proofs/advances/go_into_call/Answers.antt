use Rattle.std.proofs.Common.{sym, ap, ◌∙◌}
use Rattle.lx_abi.specs.declared.log.Call.{Call}
use Rattle.lx_model.specs.declared.stage.Task.TheVariants.{Alive}
use Rattle.lx_turn.specs.Injection.{choice_in}
use Rattle.lx_kernel.proofs.Advancing.{nothing, none_leads, enter_leads, through_call}
use Rattle.lx_kernel.proofs.advances.go_into_call.Goals as goal

pub returns-then-is_some-clause-leads : goal.returns-then-is_some-clause-leads
returns-then-is_some-clause-leads c =
    none_leads c.args.injection.now c.args.shared.now c.args.child c.args.pid (Alive c.args.user.now c.args.stage.now) c.args.item.now c.requires.nothing

pub returns-then-limit-lt3-clause-leads : goal.returns-then-limit-lt3-clause-leads
returns-then-limit-lt3-clause-leads c =
    let t = c.args.injection.now in
    let p = c.args.pid in
    enter_leads t c.args.shared.now c.args.child p c.requires.alive c.args.user.now c.call-call.result c.choice-choice.result c.call-call.ensures
    (c.choice-choice.ensures ∙ ap (λ (call : Call). choice_in t p call.number) c.call-call.ensures)
    (nothing c.choice-choice.result.result (sym c.is_some.ensures ∙ c.if-is_some.false))
    (nothing c.choice-choice.result.signal (sym c.is_some-else-is_some.ensures ∙ c.if-is_some-2.false))
    c.enter.result c.args.stage.now c.enter.new.stage c.args.item.now c.requires.entered c.requires.nothing c.enter.ensures.entered

pub returns-clause-leads : goal.returns-clause-leads
returns-clause-leads c =
    let t = c.args.injection.now in
    let p = c.args.pid in
    through_call t c.args.shared.now c.args.child p c.requires.alive c.args.user.now c.call-call.result c.choice-choice.result c.call-call.ensures
    (c.choice-choice.ensures ∙ ap (λ (call : Call). choice_in t p call.number) c.call-call.ensures)
    (nothing c.choice-choice.result.result (sym c.is_some.ensures ∙ c.if-is_some.false))
    (nothing c.choice-choice.result.signal (sym c.is_some-else-is_some.ensures ∙ c.if-is_some-2.false))
    c.go_through_call.new.user c.args.stage.now c.go_through_call.new.stage c.go_through_call.new.item c.requires.entered c.in_ok-go_through_call.ensures.done
