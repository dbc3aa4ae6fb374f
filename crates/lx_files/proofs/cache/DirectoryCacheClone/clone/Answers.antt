use Rattle.std.proofs.Common.{◌≡◌, sym, subst, rules}
use Rattle.std.specs.List.{each_same}
use Rattle.std.specs.Prelude.{IfSome}
use Rattle.lx_files.specs.Ways.{AreKnown, IsKnown}
use Rattle.lx_files.proofs.cache.DirectoryCacheClone.clone.Goals as goal

pub returns : goal.returns
returns c = record {
  cases = λ children cached.
      let made : c.in_ok-clone.field-0 ≡ c.args.self.now.made = search rules in
      let entered : c.in_ok-clone-2.field-0.items ≡ c.args.self.now.entered.items = each_same _ _ c.in_ok-clone-2.ensures.cases.0 in
      (subst (λ o. IfSome o (IsKnown children)) (sym made) cached.0, subst (AreKnown children) (sym entered) cached.1);
}
