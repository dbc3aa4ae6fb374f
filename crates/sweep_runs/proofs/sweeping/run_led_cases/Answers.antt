use Rattle.std.proofs.Common.{◌≡◌, List, [], ◌∷◌, ◌++◌, map, All, ap, refl, subst, sym, ◌∙◌}
use Rattle.std.proofs.lemmas.List.Elements.{All-push}
use Rattle.sweep_runs.specs.Rows.{IsRow}
use Rattle.sweep_rows.specs.declared.wanted.Case.{Case}
use Rattle.sweep_rows.specs.declared.row.Row.{Row}
use Rattle.sweep_runs.proofs.sweeping.run_led_cases.Goals as goal

-- one row more is that of the next case
more_rows : (rows : List Row) (row : Row) (left rest all : List Case) → map (λ r. r.case) rows ++ left ≡ all → left ≡ row.case ∷ rest → map (λ r. r.case) (rows ++ row ∷ []) ++ rest ≡ all
more_rows [] row left rest all h e = sym e ∙ h
more_rows (r ∷ rs) row left rest all h e =
    ap (λ (cases : List Case). r.case ∷ cases) (more_rows rs row left rest (map (λ r. r.case) rs ++ left) refl e) ∙ h

pub loop-case-preserved : goal.loop-case-preserved
loop-case-preserved g c =
    let rows = c.loop-case.rows.items in
    let row = c.in_ok-row.row in
    let rest = c.in-Some.rest.now in
    let pushed : c.push.new.self.items ≡ rows ++ row ∷ [] = c.in_ok-push.ensures.items in
    let next : c.loop-case.left.now ≡ row.case ∷ rest =
    c.in-Some.ensures.cases.0 ∙ ap (λ (case : Case). case ∷ rest) (sym c.in_ok-row.ensures.case) in (
      ap (λ (rs : List Row). map (λ r. r.case) rs ++ rest) pushed
          ∙ more_rows rows row c.loop-case.left.now rest c.args.cases.now c.loop-case.invariant.0 next,
      subst (λ (rs : List Row). All (IsRow c.args.setup.now c.args.reference.now) rs) (sym pushed)
          (All-push (IsRow c.args.setup.now c.args.reference.now) rows row c.loop-case.invariant.1 c.in_ok-row.ensures.row),
      c.in_ok-row.ensures.led,
    )
