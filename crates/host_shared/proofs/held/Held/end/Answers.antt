use Rattle.std.proofs.Common.{sym, subst}
use Rattle.host_shared.specs.HeldStates.{HeldState, CanEnd}
use Rattle.host_shared.proofs.Keeping.{keeps_ended}
use Rattle.host_shared.proofs.held.Held.end.Goals as goal

pub invariant_of-self : goal.invariant_of-self
invariant_of-self g c =
    let s = c.self.inside in
    let can = subst (λ (h : HeldState). CanEnd h c.args.cut) (sym c.self.view_is) c.requires.can in
    keeps_ended s.boot s.host s.journal s.said s.limit s.events s.last s.pending s.closed s.failed s.cut s.over c.self.invariant can.0 can.1 can.2 c.args.cut can.3 c.answer.new.said c.in-Ok.ensures.said
