use Rattle.std.proofs.Common.{sym, subst}
use Rattle.host_shared.specs.HeldStates.{HeldState, CanRefuse, held_by}
use Rattle.host_shared.proofs.Keeping.{can_refuse, keeps_refused}
use Rattle.host_shared.proofs.held.Held.refuse.Goals as goal

pub invariant_of-self : goal.invariant_of-self
invariant_of-self g c =
    let s = c.self.inside in
    let can = can_refuse (held_by s.boot s.host s.journal s.said s.limit s.closed s.failed s.cut s.over) (subst (λ (h : HeldState). CanRefuse h) (sym c.self.view_is) c.requires.can) c.if-self.false in
    keeps_refused s.boot s.host s.journal s.said s.limit s.events s.last s.pending s.closed s.failed s.cut s.over c.self.invariant c.if-self.false can.1 can.0 can.2 c.args.request.now c.refuse.new.said c.in-Ok.ensures.said
