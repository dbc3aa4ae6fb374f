use Rattle.std.proofs.Common.{◌∙◌, sym, subst}
use Rattle.std.specs.FinMap as maps
use Rattle.shelves.specs.Rows.{AreRows}
use Rattle.shelves.proofs.Rows.{rows_taken}
use Rattle.shelves.proofs.Shelved.{unplaced}
use Rattle.shelves.proofs.places.Places.remove.Goals as goal

pub invariant_of-self : goal.invariant_of-self
invariant_of-self c =
    subst (λ m. AreRows c.set_row.new.rows.items m) (sym c.remove.ensures.rest)
    (subst (λ xs. AreRows xs (maps.remove c.self.inside.ordered c.args.number)) (sym c.set_row.ensures)
    (rows_taken c.self.inside.rows.items c.self.inside.ordered c.args.number c.self.invariant))

pub returns-in-None-clause-rest : goal.returns-in-None-clause-rest
returns-in-None-clause-rest c = sym (unplaced c.args.self.now c.args.number (sym c.get.ensures ∙ c.in-None.is))
