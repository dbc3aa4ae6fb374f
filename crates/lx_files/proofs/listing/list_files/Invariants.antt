use Rattle.std.proofs.Common.{◌≡◌, ◌++◌}
use Rattle.lx_files.proofs.Listed.{listed}
use Rattle.lx_files.proofs.listing.list_files.Given as goal

abbrev pub invariant-loop-path : goal.invariant-loop-path
invariant-loop-path l = l.list ++ listed l.nodes l.path-iterator ≡ listed l.nodes l.fn.names.entries
