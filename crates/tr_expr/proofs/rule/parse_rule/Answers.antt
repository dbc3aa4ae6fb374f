use Rattle.std.proofs.Common.{rules, ◌≡◌, ◌∙◌, sym, ap, subst, None, inr, unwrap_or, is_some}
use Rattle.std.specs.List.{flat_map}
use Rattle.tr_expr.specs.Faults.{found}
use Rattle.tr_expr.specs.Rules as spec
use Rattle.tr_expr.specs.Rules.{RefusesRule, causes, result_by}
use Rattle.tr_expr.specs.Sets as sets
use Rattle.tr_expr.specs.Sets.{AreRead, items, some_picks, turned}
use Rattle.tr_expr.specs.Parts.{part_causes, error_in, last_said}
use Rattle.tr_expr.specs.Texts.{after}
use Rattle.tr_expr.specs.Whens.{every}
use Rattle.tr_expr.proofs.Lowest.{found_first, found_none}
use Rattle.tr_expr.proofs.Refusals.{found_in_all}
use Rattle.tr_expr.proofs.rule.parse_rule.Goals as goal

pub returns-in_err-negated-clause-refusal : goal.returns-in_err-negated-clause-refusal
unfolding RefusesRule
returns-in_err-negated-clause-refusal c = search rules

pub returns-in-Some-clause-refusal : goal.returns-in-Some-clause-refusal
unfolding causes RefusesRule
returns-in-Some-clause-refusal c =
    let parts = spec.parts c.args.form c.args.text.now in
    let read = c.in_ok-negated.ensures.items in
    let set = read.readings in
    let all : c.refusal.result ≡ found None (spec.all_causes c.args.form set parts) = found_in_all c.args.form set parts c.cut.result.1 c.refusal.result c.cut.ensures.said (c.refusal.ensures (sets.causes set) (flat_map part_causes parts) read.found c.cut.ensures.said.found) in
    inr (set, (subst (λ text. AreRead (items text) set) c.cut.ensures.set read.are_read, found_first (spec.all_causes c.args.form set parts) c.in-Some.fault (sym all ∙ c.in-Some.is)))

pub returns-in-None-clause-meaning : goal.returns-in-None-clause-meaning
unfolding causes
returns-in-None-clause-meaning c =
    let parts = spec.parts c.args.form c.args.text.now in
    let said = c.cut.ensures.said in
    let read = c.in_ok-negated.ensures.items in
    let set = read.readings in
    let all : c.refusal.result ≡ found None (spec.all_causes c.args.form set parts) = found_in_all c.args.form set parts c.cut.result.1 c.refusal.result said (c.refusal.ensures (sets.causes set) (flat_map part_causes parts) read.found said.found) in
    record {
      readings = set;
      are_read = subst (λ text. AreRead (items text) set) c.cut.ensures.set read.are_read;
      sound = found_none (spec.all_causes c.args.form set parts) (sym all ∙ c.in-None.is);
      calls = λ n. c.set_of.ensures n
          ∙ (ap (λ b. turned c.in_ok-negated.negated b) (read.picks n)
          ∙ (ap (λ negated. turned negated (some_picks set n)) c.in_ok-negated.ensures.negated
          ∙ ap (λ text. turned (is_some (after 33 text)) (some_picks set n)) c.cut.ensures.set));
      result = c.result.ensures ∙ (ap (λ o. result_by c.args.form o c.cut.result.1.retval) said.error ∙ ap (λ o. result_by c.args.form (last_said error_in parts) o) said.retval);
      signal = said.signal;
      when = c.occurrences_of.ensures ∙ ap (λ o. unwrap_or o every) said.when;
    }
