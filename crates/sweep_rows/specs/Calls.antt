-- Which calls the processes of a run made.
use Rattle.std.specs.Prelude.{◌≡◌, ℕ, ◌==◌, Bool, cond, List, [], ◌∷◌, Option, Some, None}
use Rattle.std.specs.FinMap as maps
use Rattle.std.specs.List.{flat_map, list_all}
use Rattle.std.specs.Str.{bytes_eq}
use Rattle.lx_abi.specs.declared.log.Item.{Item}
use Rattle.lx_abi.specs.declared.log.Item.TheVariants.{Enter, Done, Taken, Stopped, Exit}
use Rattle.lx_abi.specs.declared.outcome.Ended.{Ended}
use Rattle.sweep_rows.specs.declared.calls.Calls.{Calls}

abbrev pub entered_by : ℕ → Item → List ℕ
entered_by pid (Enter p call) = cond (p == pid) (call.number ∷ []) []
entered_by pid (Done p call word replaced) = []
entered_by pid (Taken p signal cause) = []
entered_by pid (Stopped p signal) = []
entered_by pid (Exit p word left) = []

unfoldable pub calls_by : ℕ → List Item → List ℕ
calls_by pid log = flat_map (entered_by pid) log

-- the numbers of the process's calls are the same, in their order
unfoldable pub calls_alike : List Item → List Item → ℕ → Bool
calls_alike a b pid = bytes_eq (calls_by pid a) (calls_by pid b)

-- of each of these processes
unfoldable pub same_calls : List Item → List Item → List Ended → Bool
same_calls a b ended = list_all (λ e. calls_alike a b e.pid) ended

-- How they are kept: those of each process that has made one

abbrev pub numbers_in : Option (List ℕ) → List ℕ
numbers_in None = []
numbers_in (Some numbers) = numbers

abbrev pub calls_in : Calls → ℕ → List ℕ
calls_in calls pid = numbers_in (maps.get calls.made pid)

-- they are those of this log
abbrev pub AreCalls : Calls → List Item → Type 0
AreCalls calls log = (pid : ℕ) → calls_in calls pid ≡ calls_by pid log
