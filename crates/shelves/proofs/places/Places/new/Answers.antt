use Rattle.std.proofs.Common.{sym, subst}
use Rattle.shelves.specs.Rows.{AreRows}
use Rattle.shelves.proofs.Rows.{rows_of_none}
use Rattle.shelves.proofs.places.Places.new.Goals as goal

pub invariant_of-result : goal.invariant_of-result
invariant_of-result c =
    subst (λ rows. AreRows rows c.new.result) (sym c.new-2.ensures.items) (rows_of_none c.new.result c.new.ensures)
