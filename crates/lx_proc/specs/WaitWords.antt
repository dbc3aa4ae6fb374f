-- How processes ended.
use Rattle.std.specs.Prelude.{ℕ, List, map}
use Rattle.std.specs.Ordering.{nat_cmp}
use Rattle.std.specs.FinMap as maps
use Rattle.std.specs.FinMap.{FinMap}
use Rattle.lx_abi.specs.declared.outcome.Ended.{Ended}

-- wait words (wait(2)) by pid
abbrev pub Words : Type 0
Words = FinMap nat_cmp ℕ

abbrev pub ended_of : ℕ × ℕ → Ended
ended_of e = record { pid = e.0; word = e.1 }

-- each process that has ended with its wait word, by pid
abbrev pub ends_of : Words → List Ended
ends_of words = map ended_of (maps.entries words)
