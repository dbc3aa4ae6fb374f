use Rattle.std.proofs.Common.{◌∙◌, sym, arith}
use Rattle.host_serve.proofs.serving.answer.Goals as goal

pub returns-then-is_boot-clause-responds : goal.returns-then-is_boot-clause-responds
returns-then-is_boot-clause-responds g c = sym c.is_boot.ensures ∙ c.if-is_boot.true

pub returns-in-Ok-clause-responds : goal.returns-in-Ok-clause-responds
returns-in-Ok-clause-responds g c = (sym c.is_boot.ensures ∙ c.if-is_boot.false, c.in-Ok.ensures.answered)

pub returns-in-Ok-clause-due : goal.returns-in-Ok-clause-due
returns-in-Ok-clause-due g c = λ number due. (c.in-Ok.ensures.still_able, omega (arith, c.in-Ok.ensures.counted, due.1))

pub returns-in-Err-clause-responds : goal.returns-in-Err-clause-responds
returns-in-Err-clause-responds g c = (_, c.in-Err.ensures.failed)
