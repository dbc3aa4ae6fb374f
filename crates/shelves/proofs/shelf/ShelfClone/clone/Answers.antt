use Rattle.std.proofs.Common.{subst}
use Rattle.shelves.specs.Shelves.{shelved}
use Rattle.shelves.specs.Clones.{IsShelfClone}
use Rattle.shelves.proofs.Cloned.{shelved-clone, IsShelf-clone}
use Rattle.shelves.proofs.shelf.ShelfClone.clone.Goals as goal

pub invariant_of-result : goal.invariant_of-result
invariant_of-result g c =
    IsShelf-clone g.V.Clone.is_clone c.self.inside.values c.in_ok-clone-2.field-0 c.self.inside.places c.in_ok-clone.field-0
    c.in_ok-clone.ensures.cases c.in_ok-clone-2.ensures.cases c.self.invariant

pub returns : goal.returns
returns g c = record {
  cases = subst (λ m. IsShelfClone g.V.Clone.is_clone m (shelved c.in_ok-clone-2.field-0 c.in_ok-clone.field-0)) c.self.view_is
      (shelved-clone g.V.Clone.is_clone c.self.inside.values c.in_ok-clone-2.field-0 c.self.inside.places c.in_ok-clone.field-0
      c.in_ok-clone.ensures.cases c.in_ok-clone-2.ensures.cases);
}
