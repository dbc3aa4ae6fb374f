use Rattle.std.proofs.Common.{ℕ, List, ap, subst, sym, ◌∙◌}
use Rattle.turn_orders.specs.Plans.{words_of}
use Rattle.turn_orders.specs.declared.plans.Plan.{Plan}
use Rattle.turn_orders.specs.declared.plans.Plan.TheVariants.{Default, Switched}
use Rattle.sweep_orders.specs.Trials.{IsTrial}
use Rattle.sweep_orders.proofs.Wording.{drawn_trial, worded_trial}
use Rattle.sweep_orders.proofs.trials.try_plan.Goals as goal

pub returns-in_ok-trial-in-Default : goal.returns-in_ok-trial-in-Default
returns-in_ok-trial-in-Default c =
    let trial = c.in_ok-trial-in-Default in
    subst (λ (p : Plan). IsTrial c.args.setup.now c.args.source.now p trial.trial) (sym c.in-Default.is)
    (worded_trial c.args.setup.now c.args.source.now Default c.new.result trial.trial trial.ensures.words trial.ensures.run
    (λ k. trial.ensures.words ∙ c.new.ensures))

pub returns-in_ok-trial-in-Switched : goal.returns-in_ok-trial-in-Switched
returns-in_ok-trial-in-Switched c =
    let trial = c.in_ok-trial-in-Switched in
    let pids = c.as_slice.ensures.value ∙ c.in_ok-pids-in-Switched.ensures in
    subst (λ (p : Plan). IsTrial c.args.setup.now c.args.source.now p trial.trial) (sym c.in-Switched.is)
    (worded_trial c.args.setup.now c.args.source.now (Switched c.in-Switched.switch) c.in_ok-words-in-Switched.words trial.trial
    trial.ensures.words trial.ensures.run
    (λ k. trial.ensures.words ∙ c.in_ok-words-in-Switched.ensures ∙ ap (λ (ps : List ℕ). words_of ps) pids))

pub returns-in_ok-trial-in-ByChance : goal.returns-in_ok-trial-in-ByChance
returns-in_ok-trial-in-ByChance c =
    let trial = c.in_ok-trial-in-ByChance in
    subst (λ (p : Plan). IsTrial c.args.setup.now c.args.source.now p trial.trial) (sym c.in-ByChance.is)
    (drawn_trial c.args.setup.now c.args.source.now c.in-ByChance.number trial.trial trial.ensures)
