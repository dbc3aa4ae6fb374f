use Rattle.std.proofs.Common.{sym, subst}
use Rattle.std.specs.FinMap as maps
use Rattle.shelves.specs.Rows.{AreRows}
use Rattle.shelves.proofs.Rows.{rows_alike, rows_put}
use Rattle.shelves.proofs.places.Places.insert.Goals as goal

pub invariant_of-self-2 : goal.invariant_of-self-2
invariant_of-self-2 c =
    let rows = c.self.inside.rows.items in
    let made = c.make_row.new.rows.items in
    let k = c.args.number in
    let p = c.args.place in
    subst (λ m. AreRows c.set_row.new.rows.items m) (sym c.in-Ok-insert.ensures.ok)
    (subst (λ xs. AreRows xs (maps.insert c.self.inside.ordered k p)) (sym c.set_row.ensures)
    (rows_put made c.self.inside.ordered k p c.in-Ok.ensures.there (rows_alike rows made c.self.inside.ordered c.make_row.ensures.same c.self.invariant)))
