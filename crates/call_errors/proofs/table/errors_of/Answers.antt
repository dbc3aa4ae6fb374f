use Rattle.std.proofs.Common.{◌==◌, ◌∙◌, sym, ap, option_map, find}
use Rattle.std.specs.Option.{option_copied}
use Rattle.call_errors.specs.Errors.{error_row, listed_in, errors_listed}
use Rattle.call_errors.proofs.table.errors_of.Goals as goal

pub returns-in-Some : goal.returns-in-Some
unfolding errors_listed
returns-in-Some c =
    ap (λ o. listed_in (option_map error_row (option_copied o))) (sym c.in-Some.is)
    ∙ ap listed_in (c.row_numbered.ensures ∙ ap (λ rows. find (λ row. row.0 == c.args.number) rows) c.rows.ensures)

pub returns-in-None : goal.returns-in-None
unfolding errors_listed
returns-in-None c =
    ap (λ o. listed_in (option_map error_row (option_copied o))) (sym c.in-None.is)
    ∙ ap listed_in (c.row_numbered.ensures ∙ ap (λ rows. find (λ row. row.0 == c.args.number) rows) c.rows.ensures)
