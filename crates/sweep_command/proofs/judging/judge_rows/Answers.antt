use Rattle.std.proofs.Common.{◌≡◌, ◌++◌, List, [], ◌∷◌, refl, ap, sym, subst, ◌∙◌, append_assoc, append-nil, length, arith}
use Rattle.std.proofs.lemmas.List.{nil_from_length}
use Rattle.std.specs.Vec.Iter.{into_iter_items}
use Rattle.sweep_rows.specs.declared.row.Row.{Row}
use Rattle.sweep_command.specs.Checks.{AreJudged}
use Rattle.sweep_command.proofs.judging.judge_rows.Goals as goal

pub loop-row-preserved : goal.loop-row-preserved
loop-row-preserved g c =
    let s = c.args.setup.now in
    let r = c.args.reference.now in
    let at = c.loop-row in
    let judged = c.in_ok-judged.judged in
    let steps : into_iter_items at.row-iterator ≡ c.in-Some.row ∷ into_iter_items c.next.new.self = c.in-Some.ensures.steps.0 in (
      λ more h. subst (λ (all : List Row). AreJudged s r c.args.rows.items all)
          (sym (ap (λ (rs : List Row). rs ++ more) c.in_ok-push.ensures.items ∙ append_assoc at.told.items (judged ∷ []) more))
          (at.invariant.0 (judged ∷ more)
          (subst (λ (ms : List Row). AreJudged s r ms (judged ∷ more)) (sym steps) (c.in_ok-judged.ensures, h))),
      let was = at.invariant.1 in
          let gone = c.in-Some.ensures.steps.1 in
          let short = ap length steps in
          omega arith,
    )

pub returns : goal.returns
returns g c =
    let s = c.args.setup.now in
    let r = c.args.reference.now in
    let at = c.loop-row in
    let none : into_iter_items at.row-iterator ≡ [] =
    nil_from_length (into_iter_items at.row-iterator) (sym at.invariant.1 ∙ c.in-None.ensures.steps.0) in
    subst (λ (all : List Row). AreJudged s r c.args.rows.items all) (append-nil at.told.items)
    (at.invariant.0 [] (subst (λ (ms : List Row). AreJudged s r ms []) (sym none) refl))
