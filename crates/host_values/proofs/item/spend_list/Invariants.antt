use Rattle.std.proofs.Common.{◌≡◌, ◌+◌, length, take}
use Rattle.std.specs.List.{sum_by}
use Rattle.host_values.proofs.item.spend_list.Given as goal

abbrev pub invariant-loop-item : goal.invariant-loop-item
invariant-loop-item g l = l.left + (4 + sum_by (λ x. length (g.T.Item.spelled x)) (take l.item-index l.list)) ≡ l.budget
