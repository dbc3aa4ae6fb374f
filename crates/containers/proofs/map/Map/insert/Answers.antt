use Rattle.std.proofs.Common.{ap, ◌∙◌}
use Rattle.std.specs.FinMap as maps
use Rattle.containers.proofs.Maps.{made_by_insert}
use Rattle.containers.proofs.map.Map.insert.Goals as goal

pub returns-clause-ok : goal.returns-clause-ok
returns-clause-ok g c = made_by_insert _ _ c.args.key c.args.value c.in_ok-insert.ensures.updates.0 ∙ ap (λ m. maps.insert m c.args.key c.args.value) c.self.view_is
