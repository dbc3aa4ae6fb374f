-- What a script does to each occurrence of a call (strace(1), tampering).
use Rattle.std.specs.Prelude.{ℕ, ◌-◌, ◌%◌, List, Option, Some, None, Bool, ◌&&◌, not, if◌then◌else◌, nat_eq, nat_le, reverse, find}
use Rattle.std.specs.List.{list_any}
use Rattle.lx_abi.specs.Whens.{up_to}
use Rattle.lx_abi.specs.declared.script.Set.{Set}
use Rattle.lx_abi.specs.declared.script.Set.TheVariants.{Only, AllBut}
use Rattle.lx_abi.specs.declared.when.When.{When}
use Rattle.lx_abi.specs.declared.script.Choice.{Choice}
use Rattle.lx_abi.specs.declared.script.Rule.{Rule}

-- the number stands in the list
abbrev pub among : List ℕ → ℕ → Bool
among numbers n = list_any (λ m. nat_eq m n) numbers

-- the set has the number
abbrev pub includes : Set → ℕ → Bool
includes (Only numbers) n = among numbers n
includes (AllBut numbers) n = not (among numbers n)

-- the nth occurrence is one of those named
abbrev pub covers : When → ℕ → Bool
covers when n = nat_le when.first n && (up_to when.last n && nat_eq ((n - when.first) % when.step) 0)

-- the last rule that names the call
abbrev pub last_naming : List Rule → ℕ → Option Rule
last_naming rules call = find (λ rule. includes rule.calls call) (reverse rules)

-- the call is done as it is
abbrev pub no_choice : Choice
no_choice = record { result = None; signal = None }

-- what a rule does to the nth occurrence
abbrev pub done_by : Option Rule → ℕ → Choice
done_by None n = no_choice
done_by (Some rule) n = if covers rule.when n then rule.choice else no_choice

-- what a script does to the nth occurrence of a call
unfoldable pub choice_of : List Rule → ℕ → ℕ → Choice
choice_of rules call n = done_by (last_naming rules call) n
