use Rattle.std.proofs.Common.{rules, ◌∙◌, inr, sym, ap}
use Rattle.tr_expr.specs.Sets.{RefusesSet, causes, some_picks, turned}
use Rattle.tr_expr.proofs.Lowest.{found_first, found_none}
use Rattle.tr_expr.proofs.set.parse_trace.Goals as goal

pub returns-in_err-negated-clause-refusal : goal.returns-in_err-negated-clause-refusal
unfolding RefusesSet
returns-in_err-negated-clause-refusal c = search rules

pub returns-in-Some-clause-refusal : goal.returns-in-Some-clause-refusal
unfolding RefusesSet
returns-in-Some-clause-refusal c =
    let read = c.in_ok-negated.ensures.items in
    inr (read.readings, (read.are_read, found_first (causes read.readings) c.in-Some.fault (sym read.found ∙ c.in-Some.is)))

pub returns-in-None-clause-meaning : goal.returns-in-None-clause-meaning
returns-in-None-clause-meaning c =
    let read = c.in_ok-negated.ensures.items in
    record {
      readings = read.readings;
      are_read = read.are_read;
      sound = found_none (causes read.readings) (sym read.found ∙ c.in-None.is);
      calls = λ n. c.set_of.ensures n
          ∙ (ap (λ b. turned c.in_ok-negated.negated b) (read.picks n)
          ∙ ap (λ negated. turned negated (some_picks read.readings n)) c.in_ok-negated.ensures.negated);
    }
