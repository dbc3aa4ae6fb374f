use Rattle.std.proofs.Common.{◌≡◌, take}
use Rattle.rv_mem.proofs.Gaps.{key_lists}
use Rattle.rv_mem.proofs.beginnings.copy_sets.Given as goal

abbrev pub invariant-loop-set : goal.invariant-loop-set
invariant-loop-set l = key_lists l.copy.items ≡ key_lists (take l.set-index l.sets)
