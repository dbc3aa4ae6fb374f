use Rattle.std.proofs.Common.{◌≡◌}
use Rattle.turn_rows.specs.Cycles.{rounds_of}
use Rattle.turn_rows.proofs.cycle.Cycle.written_out.Given as goal

abbrev pub invariant-loop : goal.invariant-loop
invariant-loop l = l.pids.items ≡ rounds_of l.counter l.self.pids.items
