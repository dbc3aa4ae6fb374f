use Rattle.std.proofs.Common.{None, Some, refl, sym, ◌∙◌}
use Rattle.host_link.proofs.Answered.{answered}
use Rattle.host_link.proofs.local.LocalLinkLink.call.Goals as goal

pub returns-in-Ok-Some-clause-answered : goal.returns-in-Ok-Some-clause-answered
returns-in-Ok-Some-clause-answered c =
    answered c.args.self.now _ c.args.request (Some c.in-Ok-Some.reply) c.if-self-2.false (sym c.is_boot.ensures ∙ c.if-is_boot.false)
    (rw c.in-Ok-Some.field-0-is at c.in-Ok-Some.ensures.served) c.if-self-2.false

pub returns-in-Ok-None-clause-answered : goal.returns-in-Ok-None-clause-answered
returns-in-Ok-None-clause-answered c =
    answered c.args.self.now _ c.args.request None c.if-self-2.false (sym c.is_boot.ensures ∙ c.if-is_boot.false)
    (rw c.in-Ok-None.field-0-is at c.in-Ok-None.ensures.served) refl
