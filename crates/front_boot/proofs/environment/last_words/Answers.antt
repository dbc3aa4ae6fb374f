use Rattle.std.proofs.Common.{◌≡◌, ◌∷◌, [], ◌++◌, ap, sym, ◌∙◌, map, reverse}
use Rattle.std.specs.Iterator.Adapters.{rev_source}
use Rattle.std.specs.Slice.Iter.{iter_rest}
use Rattle.std.proofs.lemmas.List.{append-nil}
use Rattle.front_boot.specs.Environment.{environment, name_of}
use Rattle.front_boot.proofs.Variables.{kept_more, none_noted, noted, nothing_left, seam}
use Rattle.front_boot.proofs.environment.last_words.Goals as goal

pub loop-word-init : goal.loop-word-init
loop-word-init c =
    let all = ap (λ i. iter_rest (rev_source i)) c.into_iter-word-iterator.ensures.into_iter_gives
    ∙ ap iter_rest c.rev-word-items.ensures.source ∙ c.iter.ensures.rest in (
      [],
      append-nil _ ∙ ap (map (λ word. word.now)) all,
      (λ n. none_noted c.new-names.result n c.new-names.ensures.empty),
      ap (map (λ word. word.now)) c.new-kept.ensures.items,
    )

pub loop-word-preserved : goal.loop-word-preserved
loop-word-preserved c =
    let at = c.loop-word in
    let done = at.invariant.0 in
    let word = c.in-Some.word.now in (
      word.now ∷ done,
      seam (λ w. w.now) _ _ word done _ c.in-Some.ensures.steps at.invariant.1,
      (λ n. noted (name_of word.now) at.names c.keep.new.names done c.in_ok-keep.ensures.0 at.invariant.2 n),
      c.in_ok-keep.ensures.1 ∙ kept_more word.now at.names done _ at.invariant.2 at.invariant.3,
    )

pub returns : goal.returns
returns c =
    let at = c.loop-word in
    let empty = nothing_left (iter_rest (rev_source at.word-iterator)) c.in-None.ensures.steps.0 in
    let all = ap (λ rest. map (λ word. word.now) rest ++ at.invariant.0) (sym empty) ∙ at.invariant.1 in
    at.invariant.3 ∙ ap (λ done. reverse (environment done)) all
