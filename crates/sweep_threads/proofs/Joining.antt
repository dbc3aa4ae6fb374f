-- The rows of some cases, and behind them those of others.
use Rattle.std.proofs.Common.{◌≡◌, List, [], ◌∷◌, ◌++◌, ap, ap₂, refl, ◌∙◌}
use Rattle.std.proofs.lemmas.List.{map-append}
use Rattle.std.proofs.lemmas.List.Elements.{All-append}
use Rattle.sweep_rows.specs.declared.verdicts.Reached.{Reached}
use Rattle.sweep_runs.specs.Rows.{AreRows, IsRow}
use Rattle.sweep_rows.specs.declared.wanted.Case.{Case}
use Rattle.sweep_rows.specs.declared.setup.Setup.{Setup}
use Rattle.sweep_rows.specs.declared.row.Row.{Row}

pub rows_are_joined : (setup : Setup) (reference : Reached) (cases more : List Case) (rows others : List Row)
    → AreRows setup reference cases rows → AreRows setup reference more others → AreRows setup reference (cases ++ more) (rows ++ others)
rows_are_joined setup reference cases more rows others h g = record {
  cases_are = map-append (λ (r : Row). r.case) rows others ∙ ap₂ ◌++◌ h.cases_are g.cases_are;
  each = All-append (IsRow setup reference) rows others h.each g.each;
}

pub grouped : (xs ys zs all : List Case) → xs ++ (ys ++ zs) ≡ all → (xs ++ ys) ++ zs ≡ all
grouped [] ys zs all e = e
grouped (x ∷ xs) ys zs all e = ap (λ (cases : List Case). x ∷ cases) (grouped xs ys zs (xs ++ (ys ++ zs)) refl) ∙ e
