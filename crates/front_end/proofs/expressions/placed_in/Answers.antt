use Rattle.std.proofs.Common.{ap, map}
use Rattle.front_end.specs.Expressions.{placed_text}
use Rattle.front_end.proofs.Placed.{four}
use Rattle.front_end.proofs.expressions.placed_in.Goals as goal

pub returns : goal.returns
returns c =
    four _ _ _ _ _ _ _ _ _ (ap (map placed_text) c.new-placed.ensures.items) c.in_ok-add_placed.ensures
    c.in_ok-add_placed-2.ensures c.in_ok-add_placed-3.ensures c.in_ok-add_placed-4.ensures
