-- What is told of so many orders, each of which has a run of its own.
use Rattle.std.specs.Prelude.{◌≡◌, ℕ, List, length}
use Rattle.lx_abi.specs.declared.log.Item.{Item}
use Rattle.sweep_rows.specs.declared.setup.Setup.{Setup}
use Rattle.sweep_orders.specs.Found.{Told, none_told, CountsAll}
use Rattle.turn_orders.specs.Plans.{IsSource, switched_of}
use Rattle.sweep_orders.specs.Trials.{AreTrials}
use Rattle.sweep_orders.specs.declared.exploring.Explored.{Explored}
use Rattle.sweep_orders.specs.declared.found.Results.{Results}
use Rattle.turn_orders.specs.declared.plans.Source.{Source}
use Rattle.sweep_orders.specs.declared.trials.Trial.{Trial}

abbrev pub told_of : Results → Told
told_of r = record { found = r.found.items; met = r.met }

-- so many runs, by the orders from this number on
pub record AreMade (setup : Setup) (o : Source) (n count : ℕ) (ts : List Trial) : Type 0 where
  pub trials : AreTrials setup o n ts
  pub many : length ts ≡ count

-- they are counted
pub record Explores (setup : Setup) (o : Source) (n count : ℕ) (before after : Told) : Type 0 where
  pub trials : List Trial
  pub made : AreMade setup o n count trials
  pub counts : CountsAll trials before after

-- so many orders from a seed on, where the run by the default one has this log
pub record AreOrders (setup : Setup) (log : List Item) (orders seed : ℕ) (e : Explored) : Type 0 where
  pub source : Source
  pub is_source : IsSource log seed source
  pub told : Told
  pub explores : Explores setup source 0 orders none_told told
  pub found : e.found.items ≡ told.found
  pub different : e.different ≡ length told.met
  pub switched : e.switched ≡ switched_of orders (length source.switches.items)
  pub switches : e.switches ≡ length source.switches.items
