-- Counts of entries, beside a log.
use Rattle.std.specs.Prelude.{◌≡◌, ℕ, List}
use Rattle.lx_abi.specs.declared.log.Item.{Item}
use Rattle.lx_abi.specs.declared.occurrences.Occurrences.{Occurrences}
use Rattle.lx_abi.specs.Log.{entries}
use Rattle.lx_abi.specs.Occurrences.{count_of}

-- the counts are those of the log
abbrev pub Agree : Occurrences → List Item → Type 0
Agree o log = (pid number : ℕ) → count_of o pid number ≡ entries pid number log
