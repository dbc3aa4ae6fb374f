use Rattle.std.proofs.Common.{rules, ◌≡◌, ◌≢◌, ◌∙◌, ap, get_or, arith, nat_le}
use Rattle.std.specs.Bool.{then_some}
use Rattle.std.proofs.lemmas.Bool.Decides.{nat_tests}
use Rattle.tr_expr.specs.Numbers.{within}
use Rattle.tr_expr.proofs.Numerals.{parsed, unread}
use Rattle.front_end.proofs.options.decimal.Goals as goal

pub returns-in-Ok : goal.returns-in-Ok
returns-in-Ok c =
    let p : get_or c.args.digits.now 0 0 ≢ 43 = search rules in
    let b : nat_le c.in-Ok.number c.args.most ≡ within 0 c.args.most c.in-Ok.number = grind (arith, nat_tests) in
    c.then_some.ensures ∙ (ap (λ t. then_some t c.in-Ok.number) b ∙ parsed 10 0 c.args.most c.in-Ok.number c.args.digits.now p c.in-Ok.ensures.value)

pub returns-in-Err : goal.returns-in-Err
returns-in-Err c =
    let p : get_or c.args.digits.now 0 0 ≢ 43 = search rules in
    unread 10 0 c.args.most c.args.digits.now (omega arith) p c.in-Err.ensures.value
