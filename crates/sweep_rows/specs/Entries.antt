-- Which occurrences of calls a log has: the nth entry of each process into a call is its nth occurrence.
use Rattle.std.specs.Prelude.{suc, Bool, ◌&&◌, cond, List, [], ◌∷◌, ◌++◌}
use Rattle.lx_abi.specs.declared.log.Item.{Item}
use Rattle.lx_abi.specs.declared.log.Item.TheVariants.{Enter, Done, Taken, Stopped, Exit}
use Rattle.lx_abi.specs.declared.script.Set.{Set}
use Rattle.lx_abi.specs.Log.{entries}
use Rattle.lx_abi.specs.Scripts.{includes}
use Rattle.lx_model.specs.Kernel.{traces}
use Rattle.sweep_rows.specs.Known.{occurrence_at}
use Rattle.sweep_rows.specs.declared.known.Occurrence.{Occurrence}

-- what an item adds, where this log is before it: a tracee's entry into a call of the set is an occurrence
abbrev pub more : Set → Bool → List Item → Item → List Occurrence
more set follow past (Enter pid call) =
    cond (includes set call.number && traces follow pid)
    (occurrence_at past pid call (suc (entries pid call.number past)) ∷ []) []
more set follow past (Done pid call result replaced) = []
more set follow past (Taken pid signal cause) = []
more set follow past (Stopped pid signal) = []
more set follow past (Exit pid word left) = []

-- those of the items after a log
abbrev pub rows_after : Set → Bool → List Item → List Item → List Occurrence
rows_after set follow past [] = []
rows_after set follow past (item ∷ items) = more set follow past item ++ rows_after set follow (past ++ item ∷ []) items

-- those of a log, in its order
unfoldable pub rows_of : Set → Bool → List Item → List Occurrence
rows_of set follow log = rows_after set follow [] log
