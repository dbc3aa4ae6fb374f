use Rattle.std.proofs.Common.{◌≡◌, ◌∷◌, ap, sym, ◌∙◌, length, arith, string_bytes}
use Rattle.std.specs.Vec.Iter.{into_iter_items}
use Rattle.front_end.proofs.Placed.{all_moved, moved}
use Rattle.front_end.proofs.expressions.texts_of.Goals as goal

pub loop-one-preserved : goal.loop-one-preserved
loop-one-preserved c =
    let at = c.loop-one in
    let steps : into_iter_items at.one-iterator ≡ c.in-Some.one ∷ into_iter_items c.next.new.self = c.in-Some.ensures.steps.0 in (
      moved (λ one. string_bytes one.text) _ _ _ _ _ c.in-Some.one steps at.invariant.0 c.in_ok-add_text.ensures,
      let was = at.invariant.1 in
          let gone = c.in-Some.ensures.steps.1 in
          let short = ap length steps in
          omega arith,
    )

pub returns : goal.returns
returns c =
    let at = c.loop-one in
    all_moved (λ one. string_bytes one.text) _ _ (into_iter_items at.one-iterator)
    (sym at.invariant.1 ∙ c.in-None.ensures.steps.0) at.invariant.0
