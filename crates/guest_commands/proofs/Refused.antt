-- What is refused behind the schedule.
use Rattle.std.proofs.Common.{◌≡◌, ◌⊎◌, ℕ, true, List, Option, Some, inr, refl, subst, sym}
use Rattle.std.specs.Prelude.{IsSome, codes}
use Rattle.clap.specs.declared.parser.matches.ArgMatches.{ArgMatches}
use Rattle.lx_abi.specs.declared.schedule.Word.{Word}
use Rattle.front_boot.specs.Boots.{given_words}
use Rattle.front_end.specs.Expressions.{AskFor}
use Rattle.front_end.specs.Numbers.{limit_of}
use Rattle.front_boot.specs.Refusals.{RefusesAsked}
use Rattle.front_end.specs.Refusals.{RefusesOutputs}
use Rattle.front_end.specs.Schedules.{IsSchedule}
use Rattle.front_end.specs.Values.{value_of}
use Rattle.front_end.specs.declared.expressions.Expressions.{Expressions}
use Rattle.front_end.specs.declared.fault.Fault.{Fault}
use Rattle.guest_commands.specs.Plans.{RefusesPlan}

pub refused_behind : {F : Type 0} (remaining : F → Option (List ℕ)) (words : ArgMatches) (given : Option (List ℕ))
    (limit : ℕ) (asked : Expressions) (turns : List Word) (fault : Fault)
    → limit_of (value_of words (codes "limit")) ≡ Some limit → AskFor words asked
    → IsSchedule remaining (value_of words (codes "turns")) turns
    → RefusesOutputs words fault ⊎ RefusesAsked remaining (given_words words true) given fault
    → RefusesPlan remaining words given fault
refused_behind remaining words given limit asked turns fault limited say scheduled refused =
    inr (subst IsSome (sym limited) refl, inr (asked, (say, inr (turns, (scheduled, refused)))))
