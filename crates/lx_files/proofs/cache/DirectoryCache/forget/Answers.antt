use Rattle.std.proofs.Common.{◌≡◌, ◌==◌, Some, false, not, sym, subst, rules}
use Rattle.std.specs.Prelude.{IfSome}
use Rattle.std.proofs.lemmas.Fn.{filter_same}
use Rattle.lx_files.specs.Folders.{names_of}
use Rattle.lx_files.specs.Ways.{AreKnown, IsKnown}
use Rattle.lx_files.proofs.Ways.{if_some, known_beside}
use Rattle.lx_files.proofs.cache.DirectoryCache.forget.Goals as goal

pub returns : goal.returns
returns c = λ old new stays cached. (
  if_some c.forget_made.new.made (λ k. (c.args.self.now.made ≡ Some k) × ((k.folder == c.args.folder) ≡ false)) (IsKnown new)
      (λ k e. stays (names_of k.path) k.folder (subst (λ o. IfSome o (IsKnown old)) e.0 cached.0) e.1) c.forget_made.ensures,
  subst (AreKnown new) (sym (filter_same _ (λ k. not (c.args.folder == k.folder)) _ (λ x b f' t. search rules) _ _ c.retain.ensures.filtered))
      (known_beside old new c.args.folder stays c.args.self.now.entered.items cached.1),
)
