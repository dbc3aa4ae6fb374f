use Rattle.std.proofs.Common.{◌≡◌, ◌++◌, map}
use Rattle.std.specs.Iterator.Adapters.{zip_first, zip_second}
use Rattle.std.specs.Slice.Iter.{iter_rest}
use Rattle.std.specs.List.{zip}
use Rattle.front_end.specs.Expressions.{placed_text, spelled}
use Rattle.front_end.proofs.Placed.{to_come}
use Rattle.front_end.proofs.expressions.add_all.Given as goal

abbrev pub invariant-loop-one : goal.invariant-loop-one
invariant-loop-one l =
    map placed_text l.placed.items
    ++ to_come (spelled l.start) (iter_rest (zip_first l.one-iterator)) (iter_rest (zip_second l.one-iterator))
    ≡ map placed_text l.fn.placed.items
    ++ map (spelled l.start) (zip (map (λ value. value.now) l.values) l.places)
