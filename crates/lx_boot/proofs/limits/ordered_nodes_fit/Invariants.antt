use Rattle.std.proofs.Common.{◌≡◌, ◌+◌, drop, map, true}
use Rattle.lx_boot.specs.Limits.{nodes}
use Rattle.lx_boot.specs.Neighbours.{AreOrdered}
use Rattle.lx_boot.proofs.limits.ordered_nodes_fit.Given as goal

abbrev pub invariant-loop-i : goal.invariant-loop-i
invariant-loop-i l = record {
  counted : nodes (map (λ f. f.now) l.files) + l.room ≡ nodes (map (λ f. f.now) (drop l.i l.files)) + 4095;
  ordered : AreOrdered true (map (λ f. f.now) (drop l.i l.files));
}
