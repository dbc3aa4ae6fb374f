use Rattle.std.proofs.Common.{Bool, subst}
use Rattle.sweep_deep.specs.Rows.{SecondsBy}
use Rattle.sweep_deep.proofs.rows.seconds_of.Goals as goal

pub returns : goal.returns
returns c =
    subst (λ (b : Bool). SecondsBy b c.args.setup.now c.args.wanted.now c.args.first.now.case c.in_ok-cases.cases.items)
    c.is_borne-borne.ensures c.in_ok-cases.ensures
