-- How the occurrences of a log are counted.
use Rattle.std.specs.Prelude.{◌≡◌, ℕ, Bool, List, [], ◌∷◌, ◌++◌}
use Rattle.lx_abi.specs.declared.log.Item.{Item}
use Rattle.lx_abi.specs.declared.script.Set.{Set}
use Rattle.lx_abi.specs.Log.{entries}
use Rattle.lx_abi.specs.Occurrences.{count_of}
use Rattle.sweep_rows.specs.declared.entries.Rows.{Rows}
use Rattle.sweep_rows.specs.Entries.{more}

-- the counts are those of this log
abbrev pub Counted : List Item → Rows → Type 0
Counted past r = (p number : ℕ) → count_of r.entered p number ≡ entries p number past

pub record IsAdded (set : Set) (follow : Bool) (past : List Item) (item : Item) (r r' : Rows) : Type 0 where
  pub found : r'.found.items ≡ r.found.items ++ more set follow past item
  pub counted : Counted (past ++ item ∷ []) r'
