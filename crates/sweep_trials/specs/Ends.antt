-- A second program, which is started on the files that a run left.
use Rattle.std.specs.Prelude.{◌≡◌, ℕ, ◌==◌, Bool, false, List, [], Option, Some, None}
use Rattle.lx_abi.specs.declared.boot.Boot.{Boot}
use Rattle.lx_abi.specs.declared.outcome.OutcomeFile.{OutcomeFile}
use Rattle.sweep_rows.specs.Endings.{first_word}
use Rattle.sweep_rows.specs.declared.verdicts.Reached.{Reached}
use Rattle.sweep_runs.specs.Runs.{Reaches}
use Rattle.sweep_runs.specs.Seconds.{boot_on}
use Rattle.sweep_rows.specs.declared.setup.Setup.{Setup}
use Rattle.sweep_trials.specs.declared.second.SecondEnd.{SecondEnd}
use Rattle.sweep_words.specs.declared.trials.Second.{Second}

-- the boot is that of the first program but for the program's words, the input, which is empty, and the files
abbrev pub second_boot : Boot → List (List ℕ) → List OutcomeFile → Boot
second_boot boot argv left = boot_on (record boot { files = []; argv = argv; input = [] }) left

-- its runs begin so: by the default order of turns
pub record IsSecond (setup : Setup) (second : Second) (left : List OutcomeFile) (start : Setup) : Type 0 where
  pub boot : start.boot ≡ second_boot setup.boot second.argv left
  pub turns : start.turns.items ≡ []
  pub limit : start.limit ≡ second.limit

-- its run on these files ends so
pub record EndsOn (setup : Setup) (second : Second) (left : List OutcomeFile) (e : SecondEnd) : Type 0 where
  pub start : Setup
  pub is_second : IsSecond setup second left start
  pub reached : Reached
  pub came : Reaches start [] reached
  pub end_is : e.word ≡ first_word reached.ending.outcome

-- its process 1 exits with 0
abbrev pub exits_well : Option ℕ → Bool
exits_well None = false
exits_well (Some word) = word == 0

abbrev pub is_fine : SecondEnd → Bool
is_fine e = exits_well e.word
