-- What is refused behind the expressions.
use Rattle.std.proofs.Common.{◌≡◌, ℕ, List, Option, inl, inr, subst}
use Rattle.std.specs.Prelude.{codes}
use Rattle.clap.specs.declared.parser.matches.ArgMatches.{ArgMatches}
use Rattle.lx_abi.specs.declared.schedule.Word.{Word}
use Rattle.front_boot.specs.Boots.{given_words}
use Rattle.front_end.specs.Expressions.{AskFor}
use Rattle.front_boot.specs.Refusals.{RefusesAsked}
use Rattle.front_end.specs.Refusals.{RefusesOutputs}
use Rattle.front_end.specs.Schedules.{IsSchedule}
use Rattle.front_end.specs.Values.{value_of}
use Rattle.front_end.specs.declared.expressions.Expressions.{Expressions}
use Rattle.front_end.specs.declared.fault.Fault.{Fault}
use Rattle.trace_words.specs.Plans.{RefusesPlan}
use Rattle.trace_words.specs.declared.asked.TraceOptions.{TraceOptions}

pub refused_outputs : {F : Type 0} (remaining : F → Option (List ℕ)) (words : ArgMatches) (options : TraceOptions)
    (given : Option (List ℕ)) (asked : Expressions) (path : Option (List ℕ)) (turns : List Word) (fault : Fault)
    → AskFor words asked → path ≡ value_of words (codes "turns") → IsSchedule remaining path turns
    → RefusesOutputs words fault → RefusesPlan remaining words options given fault
refused_outputs remaining words options given asked path turns fault say same scheduled refused =
    inr (asked, (say, inr (turns, (subst (λ p. IsSchedule remaining p turns) same scheduled, inl refused))))

pub refused_boot : {F : Type 0} (remaining : F → Option (List ℕ)) (words : ArgMatches) (options : TraceOptions)
    (given : Option (List ℕ)) (asked : Expressions) (path : Option (List ℕ)) (turns : List Word) (fault : Fault)
    → AskFor words asked → path ≡ value_of words (codes "turns") → IsSchedule remaining path turns
    → RefusesAsked remaining (given_words words options.follow) given fault
    → RefusesPlan remaining words options given fault
refused_boot remaining words options given asked path turns fault say same scheduled refused =
    inr (asked, (say, inr (turns, (subst (λ p. IsSchedule remaining p turns) same scheduled, inr refused))))
