use Rattle.std.proofs.Common.{◌≡◌, ◌++◌, length, drop}
use Rattle.std.specs.List.{AllByRecursion, flat_map}
use Rattle.host_values.specs.Spelling.{word}
use Rattle.host_values.proofs.item.put_list.Given as goal

abbrev pub invariant-loop-item : goal.invariant-loop-item
invariant-loop-item g l =
    (l.out.items ++ flat_map g.T.Item.spelled (drop l.item-index l.list) ≡ l.fn.out.items ++ (word (length l.list) ++ flat_map g.T.Item.spelled l.list))
    × (AllByRecursion g.T.Item.numbers (drop l.item-index l.list) → AllByRecursion g.T.Item.numbers l.list)
