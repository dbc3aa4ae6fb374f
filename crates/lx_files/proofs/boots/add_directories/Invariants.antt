use Rattle.std.proofs.Common.{◌≡◌}
use Rattle.lx_files.specs.Boots.{with_directories}
use Rattle.lx_files.proofs.boots.add_directories.Given as goal

abbrev pub invariant-loop-i : goal.invariant-loop-i
invariant-loop-i l = l.tree ≡ with_directories l.fn.tree l.path l.i
