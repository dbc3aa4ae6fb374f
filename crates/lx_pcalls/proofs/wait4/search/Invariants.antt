use Rattle.std.proofs.Common.{◌≡◌, ◌<◌, ◌≤◌, ◌-◌, ◌^◌, ℕ, Some, false}
use Rattle.lx_pcalls.specs.Wait4.{any_child, is_child}
use Rattle.lx_pcalls.proofs.wait4.search.Given as goal

abbrev pub invariant-loop-child : goal.invariant-loop-child
invariant-loop-child l = record {
  none : (q : ℕ) → 0 < q → q ≤ l.passed → is_child l.entries l.parent any_child (Some l.options) q ≡ false;
}

abbrev pub decreases-loop-child : goal.decreases-loop-child
decreases-loop-child l = 2 ^ 32 - l.passed
