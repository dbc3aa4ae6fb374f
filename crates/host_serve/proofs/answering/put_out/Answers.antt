use Rattle.std.proofs.Common.{[], append-nil, inl, inr, sym, ◌∙◌}
use Rattle.std.proofs.KnownBytes.{Appends-kept}
use Rattle.host_serve.proofs.answering.put_out.Goals as goal

pub returns-then-has_frame-clause-out : goal.returns-then-has_frame-clause-out
returns-then-has_frame-clause-out g c = inr (sym c.has_frame.ensures ∙ c.if-has_frame.true)

pub returns-in-Ok-hand_on-clause-whole : goal.returns-in-Ok-hand_on-clause-whole
returns-in-Ok-hand_on-clause-whole g c = Appends-kept _ _ _ _ c.in-Ok.ensures.whole c.in-Ok-hand_on.ensures.bytes

pub returns-in-Err-hand_on-clause-part : goal.returns-in-Err-hand_on-clause-part
returns-in-Err-hand_on-clause-part g c = (_, ([], (append-nil _, Appends-kept _ _ _ _ c.in-Ok.ensures.whole c.in-Err-hand_on.ensures.bytes)))
