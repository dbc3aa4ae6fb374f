use Rattle.std.proofs.Common.{◌≡◌, drop}
use Rattle.lx_copies.proofs.same.same_list.Given as goal

abbrev pub invariant-loop-x : goal.invariant-loop-x
invariant-loop-x g l = (drop l.x-index l.one ≡ l.rest → l.fn.one ≡ l.fn.other) × (l.fn.one ≡ l.fn.other → drop l.x-index l.one ≡ l.rest)
