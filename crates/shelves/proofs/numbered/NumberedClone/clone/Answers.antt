use Rattle.shelves.proofs.Cloned.{known_of}
use Rattle.shelves.proofs.numbered.NumberedClone.clone.Goals as goal

pub invariant_of-result : goal.invariant_of-result
invariant_of-result g c =
    known_of c.self.inside.shelf c.in_ok-clone.field-0 c.self.inside.vacancies c.in_ok-clone-2.field-0
    c.in_ok-clone.ensures.cases.keys c.in_ok-clone-2.ensures.cases c.self.invariant
