use Rattle.std.proofs.Common.{subst}
use Rattle.tr_core.specs.Crossings.{half_at}
use Rattle.tr_core.specs.Held.{IsTold}
use Rattle.tr_core.specs.declared.crossing.Crossing.{Crossing}
use Rattle.tr_core.proofs.crossing.tell.Goals as goal

pub enter-requires : goal.enter-requires
enter-requires c =
    let o = c.args.session.now.settings.options in
    subst (λ (x : Crossing). IsTold o (half_at c.args.tracee.now.called x) c.args.decoder) c.in-Entering.is c.requires

pub leave-requires : goal.leave-requires
leave-requires c =
    let o = c.args.session.now.settings.options in
    subst (λ (x : Crossing). IsTold o (half_at c.args.tracee.now.called x) c.args.decoder) c.in-Exiting.is c.requires
