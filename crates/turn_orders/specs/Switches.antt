-- Orders with one switch: where a step of a run begins, another process goes on.
use Rattle.std.specs.Prelude.{ℕ, ◌==◌, ◌&&◌, Bool, not, cond, List, [], ◌∷◌, ◌++◌, length, map}
use Rattle.std.specs.List.{flat_map, list_any, filter, slice_get}
use Rattle.std.specs.Option.{option_to_list}
use Rattle.lx_abi.specs.declared.log.Item.{Item}
use Rattle.turn_orders.specs.Places.{spread}
use Rattle.turn_orders.specs.Steps.{begins, doer, no_steps, steps_with}
use Rattle.turn_orders.specs.declared.steps.Steps.{Steps}
use Rattle.turn_orders.specs.declared.switches.Switch.{Switch}

-- the process still does something
abbrev pub acts : List Item → ℕ → Bool
acts log p = list_any (λ i. doer i == p) log

-- another process than this one, which still does something
abbrev pub might : ℕ → List Item → ℕ → Bool
might p later q = not (q == p) && acts later q

-- behind so many steps q goes on
abbrev pub switch_to : ℕ → ℕ → Switch
switch_to steps q = record { steps = steps; pid = q }

abbrev pub switches_at : Steps → Item → List Item → List Switch
switches_at s i later =
    cond (begins s.current (doer i)) (map (switch_to (length s.pids)) (filter (might (doer i) later) s.born)) []

abbrev pub switches_in : Steps → List Item → List Switch
switches_in s [] = []
switches_in s (i ∷ is) = switches_at s i is ++ switches_in (steps_with s i) is

-- the switches that a run with this log can have, in its order
unfoldable pub switches_of : List Item → List Switch
switches_of log = switches_in no_steps log

-- those first that are far from the others
unfoldable pub spread_out : List Switch → List Switch
spread_out switches = flat_map (λ i. option_to_list (slice_get switches i)) (spread (length switches))
