use Rattle.std.proofs.Common.{ap, rules, ◌∙◌}
use Rattle.std.specs.Prelude.{◌==◌}
use Rattle.std.specs.List.{list_any}
use Rattle.std.specs.Ordering.{nat_cmp}
use Rattle.std.specs.FinMap as maps
use Rattle.std.proofs.lemmas.Map.Made.{filter_same_pairs}
use Rattle.containers.proofs.Maps.{made_by_keep}
use Rattle.containers.proofs.map.Map.keep.Goals as goal

pub returns : goal.returns
returns g c =
    ap (maps.from_entries {R = nat_cmp}) (filter_same_pairs _ (λ e. list_any (λ n. n == e.0) c.args.kept.now) _ (λ k v b w f' t. search rules) _ _ c.retain.ensures.filtered)
    ∙ made_by_keep c.self.inside.tree.entries (λ k. list_any (λ n. n == k) c.args.kept.now)
    ∙ ap (λ m. maps.retain_keys m (λ k. list_any (λ n. n == k) c.args.kept.now)) c.self.view_is
