use Rattle.std.proofs.Common.{ap, sym, ◌∙◌}
use Rattle.std.specs.FinMap as maps
use Rattle.containers.proofs.Maps.{get-entries}
use Rattle.containers.proofs.map.Map.get.Goals as goal

pub returns : goal.returns
returns g c = c.get.ensures.value ∙ sym (get-entries c.args.key _) ∙ ap (λ m. maps.get m c.args.key) c.self.view_is
