use Rattle.std.proofs.Common.{sym, ◌∙◌}
use Rattle.host_shared.proofs.Keeping.{keeps_turned}
use Rattle.host_shared.proofs.held.Held.turn.Goals as goal

pub invariant_of-self : goal.invariant_of-self
invariant_of-self g c =
    let s = c.self.inside in
    keeps_turned s.boot s.host s.journal s.said s.limit s.events s.last s.pending s.closed s.failed s.cut s.over c.self.invariant c.if-self.false c.if-self-2.false c.in-Some.pid (sym c.next.ensures ∙ c.in-Some.is) c.if-self-3.false c.turn.new.host c.in-Ok.ensures.host c.turn.new.journal c.in-Ok.ensures.journal
