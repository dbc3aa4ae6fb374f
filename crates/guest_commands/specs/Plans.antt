-- The run on the plain kernel that words ask for, and why they ask for none.
use Rattle.std.specs.Prelude.{◌≡◌, ◌⊎◌, ℕ, true, List, Option, None, Some, IsSome, Result, Ok, Err, codes}
use Rattle.clap.specs.declared.parser.matches.ArgMatches.{ArgMatches}
use Rattle.lx_abi.specs.declared.boot.Boot.{Boot}
use Rattle.lx_abi.specs.declared.schedule.Word.{Word}
use Rattle.lx_boot.specs.Boots.{fault_of}
use Rattle.lx_kernel.specs.First.{first_run_without_log}
use Rattle.lx_kernel.specs.Runs.{Run}
use Rattle.pt_schedule.specs.Schedules.{worded}
use Rattle.plain_run.specs.Runs.{RunsTo}
use Rattle.front_boot.specs.Boots.{AsksBoot, given_words}
use Rattle.front_end.specs.Expressions.{AskFor, RefusesExpressions}
use Rattle.front_end.specs.Numbers.{limit_of}
use Rattle.front_boot.specs.Refusals.{RefusesRun}
use Rattle.front_end.specs.Schedules.{IsSchedule}
use Rattle.front_end.specs.Texts.{IsAbout}
use Rattle.front_end.specs.Values.{value_of}
use Rattle.front_end.specs.declared.expressions.Expressions.{Expressions}
use Rattle.front_end.specs.declared.fault.Fault.{Fault}
use Rattle.guest_commands.specs.Statuses.{status_in}
use Rattle.guest_commands.specs.declared.plan.Plan.{Plan}

-- a kernel that has had no turn, with the script of the expressions, by what files hold and by the input, where it is
-- known what these hold
pub record IsFirst {F : Type 0} (remaining : F → Option (List ℕ)) (words : ArgMatches) (given : Option (List ℕ))
    (kernel : Run) : Type 0 where
  pub boot : Boot
  pub asks : AsksBoot remaining (given_words words true) given boot
  pub taken : fault_of boot ≡ None
  pub expressions : Expressions
  pub say : AskFor words expressions
  pub first : kernel ≡ first_run_without_log boot expressions.script

-- the order of turns of a file, so many at most
pub record IsOrder {F : Type 0} (remaining : F → Option (List ℕ)) (words : ArgMatches) (plan : Plan) : Type 0 where
  pub limit : limit_of (value_of words (codes "limit")) ≡ Some plan.limit
  pub turns : List Word
  pub schedule : IsSchedule remaining (value_of words (codes "turns")) turns
  pub order : plan.schedule ≡ worded turns plan.limit

abbrev pub IsPlan : {F : Type 0} → (F → Option (List ℕ)) → ArgMatches → Option (List ℕ) → Plan → Type 0
IsPlan remaining words given plan =
    IsFirst remaining words given plan.kernel × IsOrder remaining words plan

-- The limit is looked at first, then the expressions, of which the first that says nothing is told, and then what else
-- the words ask for.
abbrev pub RefusesPlan : {F : Type 0} → (F → Option (List ℕ)) → ArgMatches → Option (List ℕ) → Fault → Type 0
RefusesPlan remaining words given fault =
    ((limit_of (value_of words (codes "limit")) ≡ None) × IsAbout (codes "--limit") fault)
    ⊎ (IsSome (limit_of (value_of words (codes "limit")))
    × (RefusesExpressions words fault
    ⊎ ((asked : Expressions)
    × (AskFor words asked × RefusesRun remaining words (given_words words true) given fault))))

-- A status is that of the run of the plan, which has come to the end of its schedule. A fault is that of words which
-- ask for none, or there is a plan.
abbrev pub RunsWords : {F : Type 0} → (F → Option (List ℕ)) → ArgMatches → Option (List ℕ) → Result ℕ Fault → Type 0
RunsWords remaining words given (Ok status) =
    (plan : Plan)
    × (IsPlan remaining words given plan
    × ((last : Run) × (RunsTo plan.kernel plan.schedule last × (status ≡ status_in last))))
RunsWords remaining words given (Err fault) =
    RefusesPlan remaining words given fault ⊎ ((plan : Plan) × IsPlan remaining words given plan)
