use Rattle.std.proofs.Common.{ap, subst, ◌∙◌}
use Rattle.pt_journal.specs.Told.{Told}
use Rattle.host_shared.specs.HeldStates.{HeldState, held_by}
use Rattle.host_shared.proofs.Keeping.{tells}
use Rattle.host_shared.proofs.held.Held.tells.Goals as goal

pub returns-then-self-clause-told : goal.returns-then-self-clause-told
returns-then-self-clause-told g c agreed whole =
    let s = c.self.inside in
    let h = held_by s.boot s.host s.journal s.said s.limit s.closed s.failed s.cut s.over in
    subst (λ (x : HeldState). Told x.journal c.args.known.now) c.self.view_is
    (tells h (c.self.invariant.1 (ap (λ (x : HeldState). x.failed) c.self.view_is ∙ whole)).kept c.if-self.true c.args.known.now (c.agrees.ensures agreed ∙ c.transcript.ensures))
