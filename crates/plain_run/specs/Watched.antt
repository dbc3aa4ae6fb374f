-- What a watcher was told.
use Rattle.std.specs.Prelude.{◌≡◌, List, ◌++◌}
use Rattle.lx_abi.specs.declared.log.Item.{Item}
use Rattle.lx_kernel.specs.Runs.{Run}
use Rattle.plain_run.specs.declared.watch.Unwatched.{Unwatched}

-- what was logged from k to k' was told behind what had been told before, in order
pub record Tells (k : Run) (told : List Item) (k' : Run) (told' : List Item) : Type 0 where
  pub items : List Item
  pub logged : k'.running.log ≡ k.running.log ++ items
  pub are_told : told' ≡ told ++ items

-- what nobody was told
abbrev pub told_to : Unwatched → List Item
told_to w = w.told.items
