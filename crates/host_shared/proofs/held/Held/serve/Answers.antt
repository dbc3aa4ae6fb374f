use Rattle.std.proofs.Common.{refl, sym, ◌∙◌}
use Rattle.host_shared.proofs.Keeping.{keeps_served}
use Rattle.host_shared.proofs.held.Held.serve.Goals as goal

pub invariant_of-self : goal.invariant_of-self
invariant_of-self g c =
    let s = c.self.inside in
    keeps_served s.boot s.host s.journal s.said s.limit s.events s.last s.pending s.closed s.failed s.cut s.over c.self.invariant c.if-self.false c.if-self-2.false c.in-Ok.reply c.if-self-3.false (sym c.ready.ensures ∙ c.if-not-ready.false) c.in-Ok.ensures.reply c.is_outcome-self-inside.result c.is_outcome-self-inside.result c.is_outcome-self-inside.ensures refl c.serve.new.host c.in-Ok.ensures.host c.serve.new.journal c.in-Ok.ensures.journal c.serve.new.said c.in-Ok.ensures.said
