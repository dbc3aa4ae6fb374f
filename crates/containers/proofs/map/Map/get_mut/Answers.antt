use Rattle.std.proofs.Common.{◌≡◌, ap, sym, subst, refl, ◌∙◌}
use Rattle.std.specs.Prelude.{OnSome}
use Rattle.std.specs.Ordering.{nat_cmp}
use Rattle.std.specs.FinMap as maps
use Rattle.containers.proofs.Maps.{get-entries, made_by_write}
use Rattle.containers.proofs.map.Map.get_mut.Goals as goal

pub returns : goal.returns
returns g c = (
  (
    refl,
    λ w. subst (λ m. OnSome c.get_mut.result (maps.from_entries {R = nat_cmp} (c.get_mut.follows.lender w).entries ≡ maps.insert m c.args.key w)) c.self.view_is
        (made_by_write c.self.inside.tree (c.get_mut.follows.lender w) c.args.key w c.get_mut.result c.get_mut.ensures.value (c.get_mut.follows.holds w)),
    ap (λ t. maps.from_entries {R = nat_cmp} t.entries) c.get_mut.follows.holds-at-none ∙ c.self.view_is,
  ),
  record { writes_back = tt; value = c.get_mut.ensures.value ∙ sym (get-entries c.args.key _) ∙ ap (λ m. maps.get m c.args.key) c.self.view_is },
)
