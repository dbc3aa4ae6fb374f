use Rattle.std.proofs.Common.{Option, sym, subst}
use Rattle.sweep_command.specs.Reports.{IsOfAll}
use Rattle.sweep_words.specs.declared.words.Orders.{Orders}
use Rattle.sweep_command.proofs.sweeping.report_all.Goals as goal

pub returns-in_ok-of_orders-in-Some : goal.returns-in_ok-of_orders-in-Some
returns-in_ok-of_orders-in-Some g c =
    subst (λ (o : Option Orders). IsOfAll c.args.plan.now c.args.words c.args.reference.now o c.in_ok-of_orders-in-Some.of_orders)
    (sym c.in-Some.is) c.in_ok-of_orders-in-Some.ensures

pub returns-in_ok-of_ends-in-None : goal.returns-in_ok-of_ends-in-None
returns-in_ok-of_ends-in-None g c =
    subst (λ (o : Option Orders). IsOfAll c.args.plan.now c.args.words c.args.reference.now o c.in_ok-of_ends-in-None.of_ends)
    (sym c.in-None.is) c.in_ok-of_ends-in-None.ensures
