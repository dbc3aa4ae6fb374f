use Rattle.std.proofs.Common.{sym, ap, subst, ◌∙◌}
use Rattle.std.specs.Prelude.{IsSome}
use Rattle.std.specs.FinMap as maps
use Rattle.lx_model.specs.Finite.{at}
use Rattle.tr_core.specs.Known.{new_tracee}
use Rattle.tr_core.proofs.Kept.{met, there}
use Rattle.tr_core.proofs.stepping.put_in.Goals as goal

pub returns-clause-there : goal.returns-clause-there
returns-clause-there c =
    subst (λ m. IsSome (maps.get m c.args.pid)) (sym c.in_ok-insert.ensures.ok) (there c.args.known.now c.args.pid new_tracee)

pub returns-clause-same : goal.returns-clause-same
returns-clause-same c = ap (at new_tracee) c.in_ok-insert.ensures.ok ∙ met c.args.known.now c.args.pid c.requires
