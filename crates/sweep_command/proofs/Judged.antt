-- Rows that a command has judged are told.
use Rattle.std.proofs.Common.{◌≡◌, List, [], ◌∷◌, true, false, map, All, ap, ap₂, sym, subst, ◌∙◌}
use Rattle.std.proofs.lemmas.List.Elements.{All-nil, All-cons, All-head, All-tail}
use Rattle.sweep_rows.specs.declared.verdicts.Reached.{Reached}
use Rattle.sweep_runs.specs.Rows.{AreRows, IsRow}
use Rattle.sweep_rows.specs.declared.wanted.Case.{Case}
use Rattle.sweep_rows.specs.declared.setup.Setup.{Setup}
use Rattle.sweep_rows.specs.declared.row.Row.{Row}
use Rattle.sweep_command.specs.Checks.{AreJudged, IsTold, AreTold}

module _ (setup : Setup) (reference : Reached) where
  judged_cases : (made rows : List Row) → AreJudged setup reference made rows
      → map (λ (r : Row). r.case) rows ≡ map (λ (r : Row). r.case) made
  judged_cases [] rows e = ap (map (λ (r : Row). r.case)) e
  judged_cases (m ∷ ms) [] h = absurd h
  judged_cases (m ∷ ms) (r ∷ rs) h =
      ap₂ (λ (c : Case) (cs : List Case). c ∷ cs) (ap (λ (x : Row). x.case) h.0.row_is) (judged_cases ms rs h.1)

  judged_each : (made rows : List Row) → AreJudged setup reference made rows → All (IsRow setup reference) made
      → All (IsTold true setup reference) rows
  judged_each [] rows e each =
      subst (λ (rs : List Row). All (IsTold true setup reference) rs) (sym e) (All-nil (IsTold true setup reference))
  judged_each (m ∷ ms) [] h each = absurd h
  judged_each (m ∷ ms) (r ∷ rs) h each =
      All-cons (IsTold true setup reference) r rs (m, All-head (IsRow setup reference) m ms each, h.0)
      (judged_each ms rs h.1 (All-tail (IsRow setup reference) m ms each))

  pub judged_are_told : (cases : List Case) (made rows : List Row) → AreRows setup reference cases made
      → AreJudged setup reference made rows → AreTold true setup reference cases rows
  judged_are_told cases made rows are h = record {
    cases_are = judged_cases made rows h ∙ are.cases_are;
    each = judged_each made rows h are.each;
  }

  pub made_are_told : (cases : List Case) (made : List Row) → AreRows setup reference cases made
      → AreTold false setup reference cases made
  made_are_told cases made are = record { cases_are = are.cases_are; each = are.each }
