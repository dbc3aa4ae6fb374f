use Rattle.std.proofs.Common.{ℕ, ◌<◌, ◌≤◌, ◌-◌, length}
use Rattle.rv_mem.specs.Beginnings.{IsMarked, class_of}
use Rattle.rv_mem.proofs.beginnings.Beginnings.room_below.Given as goal

abbrev pub invariant-loop-class : goal.invariant-loop-class
invariant-loop-class l = record {
  at_most : l.greatest ≤ l.number;
  from : class_of l.pages ≤ l.class;
  passed : (c n : ℕ) → class_of l.pages ≤ c → c < l.class → l.greatest < n → n ≤ l.number → IsMarked l.self c n → ⊥;
}

abbrev pub decreases-loop-class : goal.decreases-loop-class
decreases-loop-class l = length l.self.gaps.items - l.class
