-- The report on runs in which a call fails behind another.
use Rattle.std.specs.Prelude.{◌≡◌, ℕ, Bool, List, cond, length, nat_lt}
use Rattle.std.specs.List.{list_any}
use Rattle.std.specs.Option.{option_to_list}
use Rattle.sweep_deep.specs.Counts.{verdict_of, verdicts_of}
use Rattle.sweep_deep.specs.Naming.{IsThat}
use Rattle.sweep_deep.specs.Rows.{AreBehind, IsTriedDeep}
use Rattle.sweep_deep.specs.declared.rows.Behind.{Behind}
use Rattle.sweep_deep.specs.declared.rows.TriedDeep.{TriedDeep}
use Rattle.sweep_report.specs.Findings.{status_of}
use Rattle.sweep_rows.specs.declared.verdicts.Reached.{Reached}
use Rattle.sweep_runs.specs.Cases.{cases_of}
use Rattle.sweep_runs.specs.Deep.{case_in}
use Rattle.sweep_rows.specs.declared.wanted.Wanted.{Wanted}
use Rattle.sweep_words.specs.declared.plan.Plan.{Plan}
use Rattle.sweep_words.specs.declared.show.NamedDeep.{NamedDeep}

-- some run was made behind this failure
abbrev pub has_runs : Behind → Bool
has_runs b = nat_lt 0 (length b.rows.items)

-- the status is that of the runs in which calls fail behind the failures that the words ask for; 5 where there is none
pub record IsOfDeep (plan : Plan) (reference : Reached) (wanted : Wanted) (s : ℕ) : Type 0 where
  pub all : List Behind
  pub made : AreBehind plan reference wanted
      (cases_of plan.wanted.items plan.setup.boot.follow reference.log.items) all
  pub status_is : s ≡ cond (list_any has_runs all) (status_of plan.strict (verdicts_of all)) 5

-- the status is that of the run which words name
pub record IsOfDeepRun (plan : Plan) (reference : Reached) (named : NamedDeep) (s : ℕ) : Type 0 where
  pub row : TriedDeep
  pub is_that : IsThat named (case_in row.made)
  pub made : IsTriedDeep plan reference row
  pub status_is : s ≡ status_of plan.strict (option_to_list (verdict_of row))
