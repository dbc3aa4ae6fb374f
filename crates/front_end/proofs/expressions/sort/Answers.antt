use Rattle.std.proofs.Common.{rules}
use Rattle.std.proofs.lemmas.List.Sorted.{answers_always}
use Rattle.front_end.proofs.expressions.sort.Goals as goal

pub returns : goal.returns
returns c = (
  c.in_ok-sort_by_key.ensures.permutation,
  (
    c.in_ok-sort_by_key.ensures.sorted (λ one. one.place) (answers_always _ _ _ (λ f a r g h. search rules)),
    c.in_ok-sort_by_key.ensures.stable (λ one. one.place) (answers_always _ _ _ (λ f a r g h. search rules)),
  ),
)
