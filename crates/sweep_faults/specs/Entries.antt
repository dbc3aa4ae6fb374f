-- How often each process has entered each call, as it is counted.
use Rattle.std.specs.Prelude.{◌≡◌, ◌≤◌, ℕ, List}
use Rattle.lx_abi.specs.declared.log.Item.{Item}
use Rattle.lx_abi.specs.Log.{entries}
use Rattle.lx_kernel.specs.Occurrences.{Agree}
use Rattle.sweep_faults.specs.declared.entries.Entries.{Entries}

-- the counts are those of this log, by which no process from that number on has entered any
pub record AreEntries (e : Entries) (log : List Item) : Type 0 where
  pub agree : Agree e.counts log
  pub within : (pid number : ℕ) → e.above ≤ pid → entries pid number log ≡ 0
