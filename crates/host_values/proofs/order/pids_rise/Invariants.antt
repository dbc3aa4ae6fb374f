use Rattle.std.proofs.Common.{◌≡◌, drop, None}
use Rattle.host_values.specs.Reading.{pids_rise}
use Rattle.host_values.proofs.order.pids_rise.Given as goal

abbrev pub invariant-loop-end : goal.invariant-loop-end
invariant-loop-end l = pids_rise l.before (drop l.end-index l.ended) ≡ pids_rise None l.ended
