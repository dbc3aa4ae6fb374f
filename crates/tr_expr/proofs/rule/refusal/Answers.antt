use Rattle.std.proofs.Common.{◌≡◌, ◌∙◌, sym, ap, Some, None}
use Rattle.tr_expr.specs.Faults.{found}
use Rattle.tr_expr.specs.Rules.{whole_causes}
use Rattle.tr_expr.proofs.Lowest.{joined_found}
use Rattle.tr_expr.proofs.rule.refusal.Goals as goal

pub returns-in-Some-default : goal.returns-in-Some-default
returns-in-Some-default c = λ xs ys p q.
    let said = c.args.said.now in
    let whole = whole_causes c.args.form said.error said.retval said.signal in
    let r : found said.fault whole ≡ Some c.in-Some-default.fault = sym c.refusal.ensures ∙ c.in-Some-default.is-0 in
    ap Some c.after.ensures ∙ joined_found c.args.set said.fault (Some c.in-Some-default.fault) xs ys whole p q r

pub returns-in-None-default : goal.returns-in-None-default
returns-in-None-default c = λ xs ys p q.
    let said = c.args.said.now in
    let whole = whole_causes c.args.form said.error said.retval said.signal in
    let r : found said.fault whole ≡ None = sym c.refusal.ensures ∙ c.in-None-default.is-0 in
    joined_found c.args.set said.fault None xs ys whole p q r
