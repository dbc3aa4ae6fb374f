-- Rows that aren't marked.
use Rattle.std.proofs.Common.{◌≡◌, Bool, true, false, List, [], ◌∷◌, length, refl, sym, subst, ◌∙◌}
use Rattle.std.proofs.lemmas.Bool.{eqb-true}
use Rattle.std.proofs.lemmas.List.{nil_from_length}
use Rattle.std.specs.Prelude.{◌==◌, String}
use Rattle.sweep_report.specs.Findings.{counts}
use Rattle.sweep_report.specs.Keys.{marked, fields}
use Rattle.sweep_rows.specs.declared.row.Row.{Row}
use Rattle.sweep_words.specs.Known.{IsKnown}
use Rattle.sweep_command.specs.Reports.{IsMark, AreMarks}

pub emptied : {X : Type 0} (xs : List X) {is_empty : Bool} → is_empty ≡ (length xs == 0) → is_empty ≡ true → xs ≡ []
emptied xs is t = nil_from_length xs (eqb-true (length xs) 0 (sym is ∙ t))

-- nothing is known
pub none_known : {Z : Type 0} (strict : Bool) (known : List (String Z)) (row : Row) → known ≡ [] → IsMark strict known row false
none_known strict known row none = record {
  key = marked row.verdict (fields [] [] []);
  older = marked row.verdict [];
  is_key = ([], [], [], refl);
  is_older = ([], refl);
  finding = λ e. absurd (cc e);
  like = λ e. absurd (cc e);
  unlike = λ _ _. (
    (λ is. subst (λ lines. IsKnown lines (marked row.verdict (fields [] [] []))) none is),
    (λ is. subst (λ lines. IsKnown lines (marked row.verdict [])) none is),
  );
}

-- it is no finding
pub no_finding : {Z : Type 0} (strict : Bool) (known : List (String Z)) (row : Row) → counts strict row.verdict ≡ false
    → IsMark strict known row false
no_finding strict known row none = record {
  key = marked row.verdict (fields [] [] []);
  older = marked row.verdict [];
  is_key = ([], [], [], refl);
  is_older = ([], refl);
  finding = λ e. absurd (cc e);
  like = λ e. absurd (cc e);
  unlike = λ _ found. absurd (cc (sym none ∙ found));
}

pub no_marks : {Z : Type 0} (strict : Bool) (known : List (String Z)) (rows : List Row) → known ≡ [] → AreMarks strict known rows []
no_marks strict known [] none = tt
no_marks strict known (r ∷ rs) none = none
