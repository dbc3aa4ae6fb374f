use Rattle.std.proofs.Common.{rules, ◌≡◌, ◌∙◌, option_map, find, ap}
use Rattle.std.specs.Option.{option_copied}
use Rattle.std.specs.Str.{bytes_eq}
use Rattle.lx_abi.specs.Calls.{calls, call_number}
use Rattle.lx_abi.specs.Tables.{call_row}
use Rattle.lx_abi.proofs.calls.call_number.Goals as goal

pub returns : goal.returns
unfolding call_number
returns c =
    let row : option_map call_row (option_copied c.row_named.result) ≡ find (λ row. bytes_eq row.1 c.args.name.now) calls = c.row_named.ensures ∙ ap (λ rows. find (λ row. bytes_eq row.1 c.args.name.now) rows) c.rows.ensures in
    let f : c.map.result ≡ option_map (λ row. row.0) (option_map call_row (option_copied c.row_named.result)) = search rules in
    f ∙ ap (λ o. option_map (λ row. row.0) o) row
