-- What the runs of a sweep begin with, as words ask for it.
use Rattle.std.specs.Prelude.{◌≡◌, ℕ, Bool, true, false, List, Option, None, Some, codes}
use Rattle.clap.specs.Words.{found_of, one_text}
use Rattle.clap.specs.declared.parser.matches.ArgMatches.{ArgMatches}
use Rattle.lx_boot.specs.Boots.{fault_of}
use Rattle.front_boot.specs.Boots.{AsksBoot, given_words}
use Rattle.front_end.specs.Numbers.{limit_of}
use Rattle.front_end.specs.Schedules.{IsSchedule}
use Rattle.front_end.specs.Values.{value_of}
use Rattle.sweep_words.specs.declared.plan.Plan.{Plan}

-- The boot and the words of the schedule are those that a traced run of these words has, with children or without,
-- where it is known what the files and the input hold; and each run has so many turns.
pub record IsPlan {F : Type 0} (remaining : F → Option (List ℕ)) (words : ArgMatches) (given : Option (List ℕ))
    (plan : Plan) : Type 0 where
  pub follow : Bool
  pub alone : one_text (found_of words) (codes "follow") ≡ None → follow ≡ false
  pub followed : one_text (found_of words) (codes "follow") ≡ Some (codes "true") → follow ≡ true
  pub boot : AsksBoot remaining (given_words words follow) given plan.setup.boot
  pub taken : fault_of plan.setup.boot ≡ None
  pub turns : IsSchedule remaining (value_of words (codes "turns")) plan.setup.turns.items
  pub limit : limit_of (value_of words (codes "limit")) ≡ Some plan.setup.limit
