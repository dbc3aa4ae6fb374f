use Rattle.std.proofs.Common.{sym, subst}
use Rattle.shelves.specs.Lacking.{Knows}
use Rattle.shelves.proofs.Lacked.{left_known, unplaced, some_of}
use Rattle.shelves.proofs.numbered.Numbered.remove.Goals as goal

pub invariant_of-self : goal.invariant_of-self
invariant_of-self g c =
    subst (λ m. Knows m c.self.inside.vacancies) (sym c.remove.ensures.rest)
    (unplaced c.self.inside.shelf c.self.inside.vacancies c.args.key c.self.invariant c.in-None.ensures.value)

pub invariant_of-self-in-Some : goal.invariant_of-self-in-Some
invariant_of-self-in-Some g c =
    subst (λ m. Knows m c.leave.new.self) (sym c.remove.ensures.rest)
    (left_known c.self.inside.shelf c.self.inside.vacancies c.leave.new.self c.args.key c.self.invariant (some_of _ c.in-Some.value (sym c.in-Some.ensures.value)) c.leave.ensures.known c.leave.ensures.within c.leave.ensures.left)
