use Rattle.std.proofs.Common.{Bool, not, refl, sym, subst}
use Rattle.std.specs.Prelude.{◌&&◌}
use Rattle.pt_schedule.specs.Cycle.{IsNextPlace}
use Rattle.pt_kernel.specs.Hosts.{HostState, able_in, hosting_by, readiness_of}
use Rattle.pt_kernel.proofs.NextAble.{place_in}
use Rattle.pt_kernel.proofs.host.HostSchedulable.next_after.Goals as goal

pub returns : goal.returns
returns c =
    let s = c.self.inside in
    let v = hosting_by s.kernel.running s.tracees s.turns s.pending in
    subst (λ (h : HostState). IsNextPlace (readiness_of h).able c.args.pid c.next_after.result) c.self.view_is
    (subst (λ (b : Bool). IsNextPlace (λ n. not b && able_in v s.kernel.follow n) c.args.pid c.next_after.result) (sym c.if-self.false)
    (place_in s.kernel v refl (c.self.invariant c.if-self.false).empty c.args.pid c.next_after.result c.next_after.ensures))
