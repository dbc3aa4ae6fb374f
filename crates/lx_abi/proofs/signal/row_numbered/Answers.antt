use Rattle.std.proofs.Common.{◌≡◌, ◌==◌, ◌∙◌, ◌-◌, sym, ap, option_map, find, arith}
use Rattle.std.specs.List.{slice_get}
use Rattle.std.proofs.lemmas.Option.{slice_get-get_or}
use Rattle.lx_abi.specs.Tables.{signal_row}
use Rattle.lx_abi.proofs.Finds.{find-map, find_place}
use Rattle.lx_abi.proofs.signal.row_numbered.Goals as goal

pub returns : goal.returns
returns c =
    let place : find (λ row. row.0 == c.args.number) c.args.rows.now ≡ slice_get c.args.rows.now (c.args.number - 1) = find_place (λ row. row.0) 1 c.args.number c.args.rows.now c.requires.counted (omega arith) in
    rw c.from.ensures (ap (λ o. option_map signal_row o) (sym (slice_get-get_or c.args.rows.now (c.args.number - 1) _ (omega arith)) ∙ sym place) ∙ sym (find-map signal_row (λ row. row.0 == c.args.number) c.args.rows.now))
