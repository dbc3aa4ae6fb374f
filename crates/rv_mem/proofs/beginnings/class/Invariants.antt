use Rattle.std.proofs.Common.{◌≡◌, ◌≤◌, ◌+◌}
use Rattle.rv_mem.specs.Beginnings.{class_of}
use Rattle.rv_mem.proofs.beginnings.class.Given as goal

abbrev pub invariant-loop-rest : goal.invariant-loop-rest
invariant-loop-rest l = record {
  sum : class_of l.rest + l.class ≡ class_of l.pages;
  fits : l.class + l.rest ≤ l.pages;
}

abbrev pub decreases-loop-rest : goal.decreases-loop-rest
decreases-loop-rest l = l.rest
