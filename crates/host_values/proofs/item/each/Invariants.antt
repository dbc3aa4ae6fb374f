use Rattle.std.proofs.Common.{◌≡◌, ◌-◌}
use Rattle.host_values.specs.Reading.{each_at}
use Rattle.host_values.proofs.Lists.{with_front}
use Rattle.host_values.proofs.item.each.Given as goal

abbrev pub invariant-loop : goal.invariant-loop
invariant-loop g l = with_front l.found (each_at g.T.Item.reads (l.count - l.counter) l.rest) ≡ each_at g.T.Item.reads l.count l.bytes
