use Rattle.std.proofs.Common.{◌≡◌, ℕ, ◌-◌, suc, length}
use Rattle.rv_mem.specs.Beginnings.{IsMarked}
use Rattle.rv_mem.proofs.beginnings.Beginnings.add_classes.Given as goal

abbrev pub invariant-loop-self : goal.invariant-loop-self
invariant-loop-self l = record {
  kept : (c n : ℕ) → IsMarked l.fn.self c n → IsMarked l.self c n;
  known : l.self.known ≡ l.fn.self.known;
}

abbrev pub decreases-loop-self : goal.decreases-loop-self
decreases-loop-self l = suc l.class - length l.self.gaps.items
