-- A log, and what is kept of it.
use Rattle.std.specs.Prelude.{Bool, List, [], if◌then◌else◌}
use Rattle.lx_abi.specs.declared.log.Item.{Item}

-- what was logged, and whether it is kept
pub record Logged : Type 0 where
  pub items : List Item
  pub keeps : Bool

-- all of it or nothing
abbrev pub kept_of : Bool → List Item → List Item
kept_of keeps items = if keeps then items else []
