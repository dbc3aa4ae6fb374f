-- The run without a failure is one to compare others with: its program began, and ended by itself.
use Rattle.std.specs.Prelude.{◌≡◌, ℕ, ◌%◌, ◌==◌, ◌&&◌, Bool, true, false, Option, Some, None}
use Rattle.std.specs.List.{list_any}
use Rattle.lx_abi.specs.declared.log.Item.{Item}
use Rattle.lx_abi.specs.declared.log.Item.TheVariants as items
use Rattle.sweep_rows.specs.Endings.{first_word}
use Rattle.sweep_rows.specs.declared.verdicts.Reached.{Reached}

-- process 1's execve, call 221, has put a program in its place (execve(2))
abbrev pub begins : Item → Bool
begins (items.Enter pid call) = false
begins (items.Done pid call result replaced) = (pid == 1) && ((call.number == 221) && (result == 0))
begins (items.Taken pid signal cause) = false
begins (items.Stopped pid signal) = false
begins (items.Exit pid word left) = false

-- the word is that of a process that exited, and not by a signal (wait(2))
abbrev pub is_exit : Option ℕ → Bool
is_exit None = false
is_exit (Some word) = word % 128 == 0

pub record Ran (reference : Reached) : Type 0 where
  pub begun : list_any begins reference.log.items ≡ true
  pub exited : is_exit (first_word reference.ending.outcome) ≡ true
