use Rattle.std.proofs.Common.{Some, None, subst, rules}
use Rattle.containers.specs.Keys.{IsNextKey}
use Rattle.containers.proofs.NextKeys.{none_above, first_above}
use Rattle.containers.proofs.map.Map.next_key.Goals as goal

pub returns-in-None : goal.returns-in-None
returns-in-None g c =
    subst (λ m. IsNextKey m c.args.number None) c.self.view_is
    (none_above c.self.inside.tree c.args.number c.range.result (c.range.ensures.in_range (search rules)) c.in-None.ensures.steps.0)

pub returns-in-Some : goal.returns-in-Some
returns-in-Some g c =
    subst (λ m. IsNextKey m c.args.number (Some c.in-Some.key.now)) c.self.view_is
    (first_above c.self.inside.tree c.args.number c.range.result (c.range.ensures.in_range (search rules)) c.in-Some.key.now c.in-Some._value.now c.next.new.self c.in-Some.ensures.steps)
