use Rattle.std.proofs.Common.{Option, sym, subst}
use Rattle.sweep_words.specs.declared.trials.Tried.{Tried}
use Rattle.sweep_command.specs.Reports.{IsOfEnds}
use Rattle.sweep_command.proofs.sweeping.report_ends.Goals as goal

pub returns-in_ok-of_trials-in-Some : goal.returns-in_ok-of_trials-in-Some
returns-in_ok-of_trials-in-Some g c =
    subst (λ (o : Option Tried). IsOfEnds c.args.plan.now c.args.words c.args.reference.now o c.in_ok-of_trials-in-Some.of_trials)
    (sym c.in-Some.is) c.in_ok-of_trials-in-Some.ensures

pub returns-in_ok-of_failures-in-None : goal.returns-in_ok-of_failures-in-None
returns-in_ok-of_failures-in-None g c =
    subst (λ (o : Option Tried). IsOfEnds c.args.plan.now c.args.words c.args.reference.now o c.in_ok-of_failures-in-None.of_failures)
    (sym c.in-None.is) c.in_ok-of_failures-in-None.ensures
