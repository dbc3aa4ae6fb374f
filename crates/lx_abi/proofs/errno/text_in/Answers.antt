use Rattle.std.proofs.Common.{rules, ◌≡◌, ◌==◌, ◌∙◌, option_map, find, map, ap}
use Rattle.std.specs.Option.{option_copied}
use Rattle.lx_abi.specs.Tables.{error_row}
use Rattle.lx_abi.proofs.errno.text_in.Goals as goal

pub returns : goal.returns
returns c =
    let row : option_map error_row (option_copied c.row_numbered.result) ≡ find (λ row. row.0 == c.args.number) (map error_row c.args.rows.now) = c.row_numbered.ensures in
    let f : option_map (λ t. t.now) c.map.result ≡ option_map (λ row. row.2) (option_map error_row (option_copied c.row_numbered.result)) = search rules in
    f ∙ ap (λ o. option_map (λ row. row.2) o) row
