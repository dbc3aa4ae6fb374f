use Rattle.std.proofs.Common.{subst, sym}
use Rattle.std.specs.Prelude.{IfSome}
use Rattle.shelves.specs.Lacking.{IsFirstHole}
use Rattle.shelves.proofs.Lacked.{first_hole_vacant}
use Rattle.shelves.proofs.numbered.least.Goals as goal

pub returns-in-Some : goal.returns-in-Some
returns-in-Some g c = first_hole_vacant c.args.shelf.now c.args.vacancies.now c.in-Some.number c.requires c.in-Some.ensures
