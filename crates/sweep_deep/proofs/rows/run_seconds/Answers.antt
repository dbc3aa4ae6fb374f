use Rattle.std.proofs.Common.{◌≡◌, List, [], ◌∷◌, ◌++◌, map, All, ap, refl, subst, sym, ◌∙◌}
use Rattle.std.proofs.lemmas.List.Elements.{All-push}
use Rattle.sweep_runs.specs.Deep.{case_in}
use Rattle.sweep_rows.specs.declared.wanted.Case.{Case}
use Rattle.sweep_runs.specs.declared.deep.DeepCase.{DeepCase}
use Rattle.sweep_deep.specs.Rows.{IsTriedDeep, pair}
use Rattle.sweep_deep.specs.declared.rows.TriedDeep.{TriedDeep}
use Rattle.sweep_deep.proofs.rows.run_seconds.Goals as goal

-- one row more is that of the next case
more_rows : (rows : List TriedDeep) (row : TriedDeep) (left rest all : List DeepCase) → map (λ r. case_in r.made) rows ++ left ≡ all → left ≡ case_in row.made ∷ rest
    → map (λ r. case_in r.made) (rows ++ row ∷ []) ++ rest ≡ all
more_rows [] row left rest all h e = sym e ∙ h
more_rows (r ∷ rs) row left rest all h e =
    ap (λ (cases : List DeepCase). case_in r.made ∷ cases) (more_rows rs row left rest (map (λ r. case_in r.made) rs ++ left) refl e) ∙ h

pub loop-second-preserved : goal.loop-second-preserved
loop-second-preserved c =
    let rows = c.loop-second.rows.items in
    let row = c.in_ok-row.row in
    let rest = map (pair c.args.first) c.in-Some.rest.now in
    let pushed : c.push.new.self.items ≡ rows ++ row ∷ [] = c.in_ok-push.ensures.items in
    let next : map (pair c.args.first) c.loop-second.left.now ≡ case_in row.made ∷ rest =
    ap (map (pair c.args.first)) c.in-Some.ensures.cases.0 ∙ ap (λ (d : DeepCase). d ∷ rest) (sym c.in_ok-row.ensures.case) in (
      ap (λ (rs : List TriedDeep). map (λ r. case_in r.made) rs ++ rest) pushed
          ∙ more_rows rows row (map (pair c.args.first) c.loop-second.left.now) rest (map (pair c.args.first) c.args.seconds.now) c.loop-second.invariant.0 next,
      subst (λ (rs : List TriedDeep). All (IsTriedDeep c.args.plan.now c.args.reference.now) rs) (sym pushed)
          (All-push (IsTriedDeep c.args.plan.now c.args.reference.now) rows row c.loop-second.invariant.1 c.in_ok-row.ensures.row),
    )
