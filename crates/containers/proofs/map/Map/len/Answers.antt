use Rattle.std.proofs.Common.{ap, sym, ◌∙◌}
use Rattle.std.specs.FinMap as maps
use Rattle.containers.proofs.Listed.{len-sorted}
use Rattle.containers.proofs.map.Map.len.Goals as goal

pub returns : goal.returns
returns g c = c.len.ensures.len ∙ sym (len-sorted _ c.len.ensures.ordered) ∙ ap maps.len c.self.view_is
