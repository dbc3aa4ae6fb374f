use Rattle.std.proofs.Common.{◌≡◌, ◌-◌, ◌<◌, suc, Bool, false, replicate, refl, sym, ap, subst, ◌∙◌, ◌++◌, arith}
use Rattle.lx_abi.specs.declared.schedule.Event.TheVariants.{Turn}
use Rattle.pt_kernel.specs.Advances.{Leads}
use Rattle.pt_kernel.specs.AfterEvents.{after}
use Rattle.pt_kernel.specs.Hosts.{HostState, hosting_by, readiness_of, state_by}
use Rattle.lx_kernel.specs.Advances.{Leads as KernelLeads}
use Rattle.pt_kernel.specs.Stops.{stop_after, dies_after}
use Rattle.pt_kernel.proofs.Turning.{no_turn}
use Rattle.pt_kernel.proofs.Advancing.{leads_made, kept_by_leads, sound_leads}
use Rattle.pt_kernel.proofs.host.Host.advance.Goals as goal

pub returns-then-not-is_effective-clause-leads : goal.returns-then-not-is_effective-clause-leads
unfolding Leads
returns-then-not-is_effective-clause-leads c =
    let s = c.self.inside in
    let same = no_turn s.kernel s.tracees s.turns s.pending c.args.pid c.traced-traced.result c.traced-traced.ensures (sym c.is_effective.ensures ∙ c.if-not-is_effective.true) in
    subst (λ (x : HostState). x ≡ after x (Turn c.args.pid)) (ap (state_by s.kernel s.tracees s.turns s.pending) (sym c.if-self.false) ∙ c.self.view_is)
    (λ i. record { hosting = same i; follow = s.kernel.follow; failed = false })

pub returns-clause-leads : goal.returns-clause-leads
returns-clause-leads c =
    let s = c.self.inside in
    let p = c.args.pid in
    let turns = c.in_ok-advanced.advanced.turns in
    let n = turns - 1 in
    let some : 0 < turns = c.in_ok-advanced.ensures.some c.most_turns-most.ensures.some in
    let count : turns ≡ suc n = omega (arith, some) in
    let empty = (c.self.invariant c.if-self.false).empty in
    let led = subst (λ m. KernelLeads s.kernel p m c.advance.new.item c.in_ok-advanced.advanced.event c.advance.new.self) count c.in_ok-advanced.ensures.leads in
    let kept = kept_by_leads n s.kernel c.advance.new.self p c.advance.new.item c.in_ok-advanced.advanced.event led in
    let made = leads_made s.tracees s.pending p c.traced-traced.result c.traced-traced.ensures c.advance.new.self c.turn.new.self c.extend.new.self
    (stop_after c.traced-traced.result.options c.in_ok-advanced.advanced.after c.advance.new.item c.in_ok-advanced.advanced.event) (dies_after c.in_ok-advanced.advanced.after c.in_ok-advanced.advanced.event) c.in_ok-advanced.advanced.event c.in_ok-advanced.advanced.after c.advance.new.item
    c.in_ok-advanced.ensures.after refl refl c.in_ok-turn.ensures
    n s.kernel s.turns empty (sym c.is_effective.ensures ∙ c.if-not-is_effective.false)
    (λ l.
    let free = c.most_turns-most.ensures.free (omega (arith, l, count, c.in_ok-advanced.ensures.within)) in
    (free.0, ap (λ (h : HostState). (readiness_of h).ready) c.self.view_is ∙ free.1))
    led (c.in_ok-extend.ensures.ok ∙ ap (λ m. s.turns ++ replicate m p) count) in
    subst (λ (x : HostState). Leads x p n (state_by c.advance.new.self c.turn.new.self c.extend.new.self s.pending false))
    (ap (state_by s.kernel s.tracees s.turns s.pending) (sym c.if-self.false) ∙ c.self.view_is)
    (subst (λ (follow : Bool). Leads (state_by s.kernel s.tracees s.turns s.pending false) p n (record { hosting = hosting_by c.advance.new.self.running c.turn.new.self c.extend.new.self s.pending; follow = follow; failed = false }))
    (sym kept.1) made)

pub invariant_of-self-2 : goal.invariant_of-self-2
invariant_of-self-2 c = λ e.
    let s = c.self.inside in
    let p = c.args.pid in
    let turns = c.in_ok-advanced.advanced.turns in
    let n = turns - 1 in
    let some : 0 < turns = c.in_ok-advanced.ensures.some c.most_turns-most.ensures.some in
    let count : turns ≡ suc n = omega (arith, some) in
    let sound = c.self.invariant c.if-self.false in
    let led = subst (λ m. KernelLeads s.kernel p m c.advance.new.item c.in_ok-advanced.advanced.event c.advance.new.self) count c.in_ok-advanced.ensures.leads in
    let made = leads_made s.tracees s.pending p c.traced-traced.result c.traced-traced.ensures c.advance.new.self c.turn.new.self c.extend.new.self
    (stop_after c.traced-traced.result.options c.in_ok-advanced.advanced.after c.advance.new.item c.in_ok-advanced.advanced.event) (dies_after c.in_ok-advanced.advanced.after c.in_ok-advanced.advanced.event) c.in_ok-advanced.advanced.event c.in_ok-advanced.advanced.after c.advance.new.item
    c.in_ok-advanced.ensures.after refl refl c.in_ok-turn.ensures
    n s.kernel s.turns sound.empty (sym c.is_effective.ensures ∙ c.if-not-is_effective.false)
    (λ l.
    let free = c.most_turns-most.ensures.free (omega (arith, l, count, c.in_ok-advanced.ensures.within)) in
    (free.0, ap (λ (h : HostState). (readiness_of h).ready) c.self.view_is ∙ free.1))
    led (c.in_ok-extend.ensures.ok ∙ ap (λ m. s.turns ++ replicate m p) count) in
    let left = sound_leads n (state_by s.kernel s.tracees s.turns s.pending false) (record { hosting = hosting_by c.advance.new.self.running c.turn.new.self c.extend.new.self s.pending; follow = s.kernel.follow; failed = false }) p made sound.swept sound.fresh in
    record {
      empty = (kept_by_leads n s.kernel c.advance.new.self p c.advance.new.item c.in_ok-advanced.advanced.event led).0 ∙ sound.empty;
      swept = left.0;
      fresh = left.1;
    }
