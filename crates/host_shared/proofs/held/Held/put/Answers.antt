use Rattle.std.proofs.Common.{sym, subst}
use Rattle.host_shared.specs.HeldStates.{HeldState, CanPut, held_by}
use Rattle.host_shared.proofs.Keeping.{can_go, keeps_asked}
use Rattle.host_shared.proofs.held.Held.put.Goals as goal

pub invariant_of-self : goal.invariant_of-self
invariant_of-self g c =
    let s = c.self.inside in
    let can = can_go (held_by s.boot s.host s.journal s.said s.limit s.closed s.failed s.cut s.over) (subst (λ (h : HeldState). CanPut h) (sym c.self.view_is) c.requires.can) c.if-self.false in
    keeps_asked s.boot s.host s.journal s.said s.limit s.events s.last s.pending s.closed s.failed s.cut s.over c.self.invariant c.if-self.false can.0 c.args.request can.1 c.put.new.host c.in-Ok.ensures.host c.put.new.journal c.in-Ok.ensures.journal c.put.new.said c.in-Ok.ensures.said
