-- Which order comes when: the default one first, and then by turns one by chance and one with a switch, those first that
-- are far from the others; where none is left, by chance.
use Rattle.std.specs.Prelude.{◌≡◌, ℕ, ◌==◌, ◌-◌, ◌/◌, ◌%◌, min, cond, List, [], ◌∷◌, ◌++◌, Option, Some, None, map, take}
use Rattle.std.specs.List.{slice_get}
use Rattle.lx_abi.specs.declared.log.Item.{Item}
use Rattle.lx_abi.specs.declared.schedule.Word.{Word}
use Rattle.lx_abi.specs.declared.schedule.Word.TheVariants.{UntilReturn}
use Rattle.turn_orders.specs.Steps.{steps_of}
use Rattle.turn_orders.specs.Switches.{switches_of, spread_out}
use Rattle.turn_orders.specs.declared.plans.Plan.{Plan}
use Rattle.turn_orders.specs.declared.plans.Plan.TheVariants.{Default, Switched, ByChance}
use Rattle.turn_orders.specs.declared.plans.Source.{Source}
use Rattle.turn_orders.specs.declared.steps.Steps.{Steps}
use Rattle.turn_orders.specs.declared.switches.Switch.{Switch}

-- orders are made from the log of the run by the default one
pub record IsSource (log : List Item) (seed : ℕ) (o : Source) : Type 0 where
  pub steps : o.steps ≡ steps_of log
  pub switches : o.switches.items ≡ spread_out (switches_of log)
  pub seed_is : o.seed ≡ seed

abbrev pub switched_or : ℕ → Option Switch → Plan
switched_or n None = ByChance n
switched_or n (Some s) = Switched s

-- the order with this number, the first being 0
abbrev pub plan_of : List Switch → ℕ → Plan
plan_of switches n =
    cond (n == 0) Default
    (cond (n % 2 == 1) (ByChance n) (switched_or n (slice_get switches ((n - 1) / 2))))

-- among so many orders there are so many with a switch
abbrev pub switched_of : ℕ → ℕ → ℕ
switched_of orders switches = min ((orders - 1) / 2) switches

-- a word for each step, by the default schedule behind them
abbrev pub words_of : List ℕ → List Word
words_of pids = map (λ p. UntilReturn p) pids

-- behind the first steps of a run another process goes on
abbrev pub switched : Steps → Switch → List ℕ
switched s w = take w.steps s.pids ++ w.pid ∷ []
