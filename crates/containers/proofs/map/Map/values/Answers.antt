use Rattle.std.proofs.Common.{◌≡◌, IfOk, map, subst, ap, sym, ◌∙◌}
use Rattle.std.specs.FinMap as maps
use Rattle.containers.proofs.Listed.{entries-sorted}
use Rattle.containers.proofs.map.Map.values.Goals as goal

pub returns : goal.returns
returns g c = subst (λ l. IfOk c.values_in.result (λ v. map (λ r. r.now) v.items ≡ l)) (ap (map (λ e. e.1)) (sym (entries-sorted _ c.len.ensures.ordered)) ∙ ap maps.values c.self.view_is) c.values_in.ensures
