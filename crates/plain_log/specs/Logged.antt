-- The log of a run, as it is printed.
use Rattle.std.specs.Prelude.{◌≡◌, ℕ, List, [], ◌++◌, Option}
use Rattle.lx_abi.specs.declared.log.Item.{Item}
use Rattle.lx_kernel.specs.Runs.{Run}
use Rattle.plain_log.specs.Logs.{HasPrinted}

-- what was logged from k to k' stands, a line an item, behind what a writer had
pub record IsLogged (had : Option (List ℕ)) (k k' : Run) (has : Option (List ℕ)) : Type 0 where
  pub items : List Item
  pub logged : k'.running.log ≡ k.running.log ++ items
  pub printed : HasPrinted had items has []
