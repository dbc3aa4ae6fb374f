use Rattle.std.proofs.Common.{Option, sym, subst}
use Rattle.sweep_rows.specs.declared.wanted.Wanted.{Wanted}
use Rattle.sweep_command.specs.Reports.{IsOfFailures}
use Rattle.sweep_command.proofs.sweeping.report_failures.Goals as goal

pub returns-in_ok-of_deep-in-Some : goal.returns-in_ok-of_deep-in-Some
returns-in_ok-of_deep-in-Some g c =
    subst (λ (o : Option Wanted). IsOfFailures c.args.plan.now c.args.words c.args.reference.now o c.in_ok-of_deep-in-Some.of_deep)
    (sym c.in-Some.is) c.in_ok-of_deep-in-Some.ensures

pub returns-in_ok-of_rows-in-None : goal.returns-in_ok-of_rows-in-None
returns-in_ok-of_rows-in-None g c =
    subst (λ (o : Option Wanted). IsOfFailures c.args.plan.now c.args.words c.args.reference.now o c.in_ok-of_rows-in-None.of_rows)
    (sym c.in-None.is) c.in_ok-of_rows-in-None.ensures
