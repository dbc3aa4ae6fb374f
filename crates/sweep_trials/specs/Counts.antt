-- What is told of a trial, and how many came to what.
use Rattle.std.specs.Prelude.{◌==◌, ◌&&◌, not, cond, Bool, true, false, List, [], ◌∷◌, Option, Some, None}
use Rattle.std.specs.List.{flat_map, list_any}
use Rattle.std.specs.Option.{option_to_list}
use Rattle.sweep_rows.specs.declared.kinds.Kind.{Kind}
use Rattle.sweep_rows.specs.declared.kinds.Kind.TheVariants as kinds
use Rattle.sweep_rows.specs.Verdicts.{is_torn}
use Rattle.sweep_rows.specs.declared.files.FileNote.{FileNote}
use Rattle.sweep_rows.specs.declared.verdicts.Verdict.{Verdict}
use Rattle.sweep_rows.specs.declared.verdicts.Verdict.TheVariants.{Hung, Broken, Torn, Damaged}
use Rattle.sweep_runs.specs.declared.trials.TrialRow.{TrialRow}
use Rattle.sweep_trials.specs.Ends.{is_fine}
use Rattle.sweep_trials.specs.declared.rows.TriedRow.{TriedRow}
use Rattle.sweep_trials.specs.declared.second.SecondEnd.{SecondEnd}
use Rattle.sweep_words.specs.declared.trials.Deed.{Deed}
use Rattle.sweep_words.specs.declared.trials.Deed.TheVariants.{Stop, Kill, Short, Begin}
use Rattle.sweep_words.specs.declared.trials.Second.{Second}

abbrev pub is_killed : Kind → Bool
is_killed kinds.Killed = true
is_killed _ = false

abbrev pub is_hung : Option Verdict → Bool
is_hung (Some Hung) = true
is_hung _ = false

-- process 1 is killed, whose end is no news then, and nobody is alive
abbrev pub ends_first : TrialRow → Bool
ends_first r = (is_killed r.trial.kind && (r.trial.occurrence.pid == 1)) && not (is_hung r.verdict)

-- by the files that are otherwise: one is destroyed, or was and its content stands elsewhere, or each is whole
abbrev pub by_files : List FileNote → Option Verdict
by_files notes = cond (list_any is_torn notes) (Some Torn) (cond (list_any (λ n. n.saved) notes) (Some Damaged) None)

-- what its own run tells: where process 1 was killed, the files
abbrev pub own_verdict : TrialRow → Option Verdict
own_verdict r = cond (ends_first r) (by_files r.files.items) r.verdict

-- a second program, where there is one, alone tells whether the files are whole; a run that hangs is told all the same
abbrev pub told_by : Option Verdict → Option SecondEnd → Option Verdict
told_by own None = own
told_by own (Some e) = cond (is_hung own) own (cond (is_fine e) None (Some Broken))

abbrev pub verdict_of : TriedRow → Option Verdict
verdict_of r = told_by (own_verdict r.made) r.second

-- the verdicts of those rows of which something is told
abbrev pub verdicts_of : List TriedRow → List Verdict
verdicts_of rows = flat_map (λ r. option_to_list (verdict_of r)) rows

-- what is counted, whether some run came to it or none: that of a short call or in a world always comes to something
abbrev pub always_by : Deed → List Verdict
always_by Stop = Torn ∷ Damaged ∷ []
always_by Kill = Torn ∷ Damaged ∷ []
always_by Short = []
always_by (Begin w) = []

abbrev pub always : Deed → Option Second → List Verdict
always deed None = always_by deed
always deed (Some second) = Broken ∷ []
