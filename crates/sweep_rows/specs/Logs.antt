-- The log of a run.
use Rattle.std.specs.Prelude.{List}
use Rattle.lx_abi.specs.declared.log.Item.{Item}

-- what was logged, whether it can be read or not
pub record Logged : Type 0 where
  pub items : List Item
