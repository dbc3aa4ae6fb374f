use Rattle.std.proofs.Common.{rules, ◌≡◌, None}
use Rattle.std.specs.FinMap as maps
use Rattle.containers.proofs.Vacant.{least_is_vacant}
use Rattle.containers.proofs.map.Map.vacant.Goals as goal

pub returns-then-is_none : goal.returns-then-is_none
returns-then-is_none g c =
    let none : maps.get c.args.self.now c.loop-number.number ≡ None = search rules in
    least_is_vacant c.args.self.now c.loop-number.number (none, c.loop-number.invariant)
