use Rattle.std.proofs.Common.{sym, subst}
use Rattle.shelves.specs.Lacking.{Knows}
use Rattle.shelves.proofs.Lacked.{taken_known}
use Rattle.shelves.proofs.numbered.Numbered.insert.Goals as goal

pub invariant_of-self-2 : goal.invariant_of-self-2
invariant_of-self-2 g c =
    subst (λ m. Knows m c.take.new.self) (sym c.in-Ok.ensures.ok)
    (taken_known c.self.inside.shelf c.self.inside.vacancies c.take.new.self c.args.key c.args.value c.self.invariant c.take.ensures.known c.take.ensures.within c.take.ensures.taken)
