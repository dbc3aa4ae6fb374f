use Rattle.std.proofs.Common.{◌≡◌, ◌≤◌}
use Rattle.lx_boot.specs.Limits.{new_directories}
use Rattle.lx_boot.proofs.limits.new_directories.Given as goal

abbrev pub invariant-loop-i : goal.invariant-loop-i
invariant-loop-i l = record {
  so_far : l.count ≡ new_directories l.files l.path l.i;
  few : l.count ≤ l.i;
}
