-- The run that words name, in which a call fails behind another that fails.
use Rattle.std.specs.Prelude.{◌≡◌, ◌==◌, ◌&&◌, Bool, true}
use Rattle.sweep_rows.specs.declared.wanted.Case.{Case}
use Rattle.sweep_runs.specs.declared.deep.DeepCase.{DeepCase}
use Rattle.sweep_words.specs.declared.show.NamedDeep.{NamedDeep}
use Rattle.sweep_words.specs.declared.show.NamedRun.{NamedRun}

-- it is the nth entry of the process into the call, and the error
abbrev pub names : NamedRun → Case → Bool
names run c =
    ((run.pid == c.occurrence.pid) && (run.call == c.occurrence.call.number))
    && ((run.n == c.occurrence.n) && (run.error.number == c.error.number))

pub record IsThat (named : NamedDeep) (c : DeepCase) : Type 0 where
  pub first : names named.first c.first ≡ true
  pub second : names named.second c.second ≡ true
