use Rattle.std.proofs.Common.{ap, sym, ◌∙◌}
use Rattle.std.specs.FinMap as maps
use Rattle.containers.proofs.Maps.{get-entries, made_by_remove}
use Rattle.containers.proofs.map.Map.remove.Goals as goal

pub returns-clause-value : goal.returns-clause-value
returns-clause-value g c = c.remove.ensures.value ∙ sym (get-entries c.args.key _) ∙ ap (λ m. maps.get m c.args.key) c.self.view_is

pub returns-clause-rest : goal.returns-clause-rest
returns-clause-rest g c = made_by_remove _ _ c.args.key c.remove.ensures.updates.0 ∙ ap (λ m. maps.remove m c.args.key) c.self.view_is
