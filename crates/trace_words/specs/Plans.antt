-- The plan of a run that words make, and why they make none.
use Rattle.std.specs.Prelude.{◌≡◌, ◌⊎◌, ℕ, List, Option, None, codes}
use Rattle.clap.specs.declared.parser.matches.ArgMatches.{ArgMatches}
use Rattle.lx_boot.specs.Boots.{fault_of}
use Rattle.front_boot.specs.Boots.{AsksBoot, given_words}
use Rattle.front_end.specs.Expressions.{AskFor, RefusesExpressions}
use Rattle.front_boot.specs.Refusals.{RefusesRun}
use Rattle.front_end.specs.Schedules.{IsSchedule}
use Rattle.front_end.specs.Values.{value_of}
use Rattle.front_end.specs.declared.expressions.Expressions.{Expressions}
use Rattle.front_end.specs.declared.fault.Fault.{Fault}
use Rattle.trace_words.specs.declared.asked.TraceOptions.{TraceOptions}
use Rattle.trace_words.specs.declared.plan.Plan.{Plan}

-- The plan of a run that is traced so: the script and the calls that are shown are those of the expressions, the words
-- of the schedule those of a file, and the boot is by the files and the input, where it is known what these hold.
pub record IsPlan {F : Type 0} (remaining : F → Option (List ℕ)) (words : ArgMatches) (options : TraceOptions)
    (given : Option (List ℕ)) (plan : Plan) : Type 0 where
  pub expressions : AskFor words (record { shown = plan.options.shown; script = plan.script })
  pub turns : IsSchedule remaining (value_of words (codes "turns")) plan.turns.items
  pub boot : AsksBoot remaining (given_words words options.follow) given plan.boot
  pub taken : fault_of plan.boot ≡ None
  pub follow : plan.options.follow ≡ options.follow
  pub string_limit : plan.options.string_limit ≡ options.string_limit
  pub width : plan.options.width ≡ options.column

-- The fault is that of the first expression that says nothing; or each says something, and what else the words ask for
-- is refused.
abbrev pub RefusesPlan : {F : Type 0} → (F → Option (List ℕ)) → ArgMatches → TraceOptions → Option (List ℕ) → Fault
    → Type 0
RefusesPlan remaining words options given fault =
    RefusesExpressions words fault
    ⊎ ((asked : Expressions)
    × (AskFor words asked × RefusesRun remaining words (given_words words options.follow) given fault))
