use Rattle.std.proofs.Common.{◌≡◌, ◌<◌, ◌≤◌, ◌-◌, ◌^◌, ℕ, false}
use Rattle.lx_proc.specs.Families.{has_child}
use Rattle.lx_proc.proofs.table.search.Given as goal

abbrev pub invariant-loop-pid : goal.invariant-loop-pid
invariant-loop-pid l = record {
  low : l.after ≤ l.passed;
  none : (q : ℕ) → l.after < q → q ≤ l.passed → has_child l.entries l.zombies l.parent q ≡ false;
}

abbrev pub decreases-loop-pid : goal.decreases-loop-pid
decreases-loop-pid l = 2 ^ 32 - l.passed
