use Rattle.std.proofs.Common.{◌≡◌, ◌<◌, ◌-◌, ◌^◌, ℕ}
use Rattle.std.specs.Prelude.{fold, nat_lt}
use Rattle.std.specs.List.{filter}
use Rattle.std.specs.FinMap as maps
use Rattle.lx_pcalls.specs.Ends.{released}
use Rattle.lx_pcalls.proofs.ending.orphan_children.Given as goal

abbrev pub invariant-loop-child : goal.invariant-loop-child
invariant-loop-child l = record {
  so_far : fold (released l.parent) l.entries (filter (nat_lt l.passed) (maps.keys l.fn.entries)) ≡ fold (released l.parent) l.fn.entries (filter (nat_lt 0) (maps.keys l.fn.entries));
  later : (q : ℕ) → l.passed < q → maps.get l.entries q ≡ maps.get l.fn.entries q;
}

abbrev pub decreases-loop-child : goal.decreases-loop-child
decreases-loop-child l = 2 ^ 32 - l.passed
