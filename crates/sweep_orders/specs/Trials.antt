-- What the run by an order left.
use Rattle.std.specs.Prelude.{◌≡◌, ℕ, ⊤, suc, min, List, [], ◌∷◌}
use Rattle.lx_abi.specs.declared.schedule.Word.{Word}
use Rattle.lx_kernel.specs.First.{first_run}
use Rattle.lx_kernel.specs.Runs.{Run}
use Rattle.plain_run.specs.Runs.{RunsTo}
use Rattle.pt_schedule.specs.Schedules.{worded, most_events}
use Rattle.rand_pcg.specs.Lcg.{Lcg}
use Rattle.sweep_runs.specs.Runs.{ending_of}
use Rattle.sweep_rows.specs.declared.setup.Setup.{Setup}
use Rattle.sweep_orders.specs.Draws.{chance_of, IsDrawn}
use Rattle.turn_orders.specs.Plans.{plan_of, switched, words_of}
use Rattle.turn_orders.specs.Steps.{steps_of}
use Rattle.turn_orders.specs.declared.plans.Plan.{Plan}
use Rattle.turn_orders.specs.declared.plans.Plan.TheVariants.{Default, Switched, ByChance}
use Rattle.turn_orders.specs.declared.plans.Source.{Source}
use Rattle.sweep_orders.specs.declared.trials.Trial.{Trial}

-- all runs begin here, under no script
abbrev pub first_of : Setup → Run
first_of setup = first_run setup.boot []

module _ (setup : Setup) (o : Source) where
  -- the words of a plan, by which a run came to k
  abbrev pub IsPlanned : Plan → List Word → Run → Type 0
  IsPlanned Default words k = words ≡ []
  IsPlanned (Switched s) words k = words ≡ words_of (switched o.steps s)
  IsPlanned (ByChance n) words k =
      (pids : List ℕ) × (words ≡ words_of pids)
      × IsDrawn pids (min setup.limit most_events) (first_of setup) (chance_of o.seed n) k

-- what the run that came to k left, and whose its steps were
pub record IsLeft (k : Run) (t : Trial) : Type 0 where
  pub ending : t.ending ≡ ending_of k
  pub order : t.order.items ≡ (steps_of k.running.log).pids

-- the run by these words left this
pub record IsRunBy (setup : Setup) (words : List Word) (t : Trial) : Type 0 where
  pub kernel : Run
  pub run : RunsTo (first_of setup) (worded words setup.limit) kernel
  pub left : IsLeft kernel t

-- the run from k on left this, whose order is drawn
pub record IsRunDrawn (k : Run) (limit : ℕ) (chance : Lcg) (t : Trial) : Type 0 where
  pub kernel : Run
  pub pids : List ℕ
  pub words : t.words ≡ words_of pids
  pub drawn : IsDrawn pids (min limit most_events) k chance kernel
  pub left : IsLeft kernel t

-- the untraced kernel's run by the words of a plan, from the boot on, left this
pub record IsTrial (setup : Setup) (o : Source) (p : Plan) (t : Trial) : Type 0 where
  pub kernel : Run
  pub run : RunsTo (first_of setup) (worded t.words setup.limit) kernel
  pub planned : IsPlanned setup o p t.words kernel
  pub left : IsLeft kernel t

-- .. by the plans from this number on
abbrev pub AreTrials : Setup → Source → ℕ → List Trial → Type 0
AreTrials setup o n [] = ⊤
AreTrials setup o n (t ∷ ts) = IsTrial setup o (plan_of o.switches.items n) t × AreTrials setup o (suc n) ts
