use Rattle.front_end.proofs.Refusing.{kept_so}
use Rattle.front_end.proofs.expressions.expression_words.Goals as goal

pub returns : goal.returns
returns c =
    kept_so _ _ c.texts_of.result
    (λ texts is. (
      c.in_ok-placed.placed.items,
      (c.in_ok-placed.ensures, (c.sort.new.placed.items, (c.in_ok-sort.ensures, is))),
    ))
    c.texts_of.ensures
