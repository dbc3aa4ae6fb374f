-- What is told of a run in which a call fails behind another, and how many came to what.
use Rattle.std.specs.Prelude.{List, [], ◌∷◌, Option, Some, None}
use Rattle.std.specs.List.{flat_map}
use Rattle.std.specs.Option.{option_to_list}
use Rattle.sweep_rows.specs.declared.verdicts.Verdict.{Verdict}
use Rattle.sweep_rows.specs.declared.verdicts.Verdict.TheVariants.{Broken}
use Rattle.sweep_trials.specs.Counts.{told_by}
use Rattle.sweep_words.specs.declared.trials.Second.{Second}
use Rattle.sweep_deep.specs.declared.rows.Behind.{Behind}
use Rattle.sweep_deep.specs.declared.rows.TriedDeep.{TriedDeep}

-- a second program, where there is one, alone tells whether the files are whole; a run that hangs is told all the same
abbrev pub verdict_of : TriedDeep → Option Verdict
verdict_of r = told_by (Some r.made.row.verdict) r.second

-- the verdicts of those runs of which something is told
abbrev pub verdicts_in : List TriedDeep → List Verdict
verdicts_in rows = flat_map (λ r. option_to_list (verdict_of r)) rows

abbrev pub verdicts_of : List Behind → List Verdict
verdicts_of all = flat_map (λ b. verdicts_in b.rows.items) all

-- what is counted, whether some run came to it or none
abbrev pub always : Option Second → List Verdict
always None = []
always (Some second) = Broken ∷ []
