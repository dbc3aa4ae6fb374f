use Rattle.std.proofs.Common.{◌≡◌, List, [], ◌∷◌, ◌++◌, map, All, ap, refl, subst, sym, ◌∙◌}
use Rattle.std.proofs.lemmas.List.Elements.{All-push}
use Rattle.sweep_runs.specs.declared.trials.Trial.{Trial}
use Rattle.sweep_trials.specs.Rows.{IsTriedRow}
use Rattle.sweep_trials.specs.declared.rows.TriedRow.{TriedRow}
use Rattle.sweep_trials.proofs.rows.run_led_each.Goals as goal

-- one row more is that of the next trial
more_rows : (rows : List TriedRow) (row : TriedRow) (left rest all : List Trial) → map (λ r. r.made.trial) rows ++ left ≡ all → left ≡ row.made.trial ∷ rest → map (λ r. r.made.trial) (rows ++ row ∷ []) ++ rest ≡ all
more_rows [] row left rest all h e = sym e ∙ h
more_rows (r ∷ rs) row left rest all h e =
    ap (λ (trials : List Trial). r.made.trial ∷ trials) (more_rows rs row left rest (map (λ r. r.made.trial) rs ++ left) refl e) ∙ h

pub loop-trial-preserved : goal.loop-trial-preserved
loop-trial-preserved c =
    let rows = c.loop-trial.rows.items in
    let row = c.in_ok-row.row in
    let rest = c.in-Some.rest.now in
    let pushed : c.push.new.self.items ≡ rows ++ row ∷ [] = c.in_ok-push.ensures.items in
    let next : c.loop-trial.left.now ≡ row.made.trial ∷ rest =
    c.in-Some.ensures.cases.0 ∙ ap (λ (t : Trial). t ∷ rest) (sym c.in_ok-row.ensures.trial) in (
      ap (λ (rs : List TriedRow). map (λ r. r.made.trial) rs ++ rest) pushed
          ∙ more_rows rows row c.loop-trial.left.now rest c.args.trials.now c.loop-trial.invariant.0 next,
      subst (λ (rs : List TriedRow). All (IsTriedRow c.args.plan.now c.args.reference.now) rs) (sym pushed)
          (All-push (IsTriedRow c.args.plan.now c.args.reference.now) rows row c.loop-trial.invariant.1 c.in_ok-row.ensures.row),
      c.in_ok-row.ensures.led,
    )
