use Rattle.std.proofs.Common.{◌≡◌, ℕ, ◌<◌, ◌⊎◌, length}
use Rattle.rv_mem.specs.Beginnings.{IsMarked}
use Rattle.rv_mem.proofs.beginnings.Beginnings.clear.Given as goal

abbrev pub invariant-loop-number : goal.invariant-loop-number
invariant-loop-number l = record {
  kept : (c n : ℕ) → (n < l.first) ⊎ (l.last < n) → IsMarked l.fn.self c n → IsMarked l.self c n;
  known : l.self.known ≡ l.fn.self.known;
}

abbrev pub decreases-loop-number : goal.decreases-loop-number
decreases-loop-number l = length l.self.classes.entries
