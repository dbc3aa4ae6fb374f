-- The log: whose an item is, which occurrence of a call an entry is, and items with what a printer reads.
use Rattle.std.specs.Prelude.{ℕ, Bool, false, ◌==◌, ◌&&◌, List, length, map, filter}
use Rattle.lx_abi.specs.declared.log.Item.{Item}
use Rattle.lx_abi.specs.declared.log.Item.TheVariants.{Enter, Done, Taken, Stopped, Exit}

abbrev pub pid_of : Item → ℕ
pid_of (Enter pid call) = pid
pid_of (Done pid call result replaced) = pid
pid_of (Taken pid signal cause) = pid
pid_of (Stopped pid signal) = pid
pid_of (Exit pid word left) = pid

-- the item is an entry of this process into the call with this number
abbrev pub is_entry : ℕ → ℕ → Item → Bool
is_entry pid number (Enter p call) = (pid == p) && (number == call.number)
is_entry pid number (Done p call result replaced) = false
is_entry pid number (Taken p signal cause) = false
is_entry pid number (Stopped p signal) = false
is_entry pid number (Exit p word left) = false

-- how often the process has entered the call: its latest occurrence, counted from 1
abbrev pub entries : ℕ → ℕ → List Item → ℕ
entries pid number log = length (filter (is_entry pid number) log)

-- what a process could read when an item was logged: the longest mapped run of so many bytes at an
-- address, and its stack pointer
pub record Note : Type 0 where
  pub peek : ℕ → ℕ → List ℕ
  pub sp : ℕ

-- an item as a printer has it
pub record Noted : Type 0 where
  pub item : Item
  pub note : Note

abbrev pub items_of : List Noted → List Item
items_of log = map (λ n. n.item) log
