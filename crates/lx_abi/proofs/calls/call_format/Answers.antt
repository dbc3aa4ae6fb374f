use Rattle.std.proofs.Common.{rules, ◌≡◌, ◌==◌, ◌∙◌, option_map, find, ap}
use Rattle.std.specs.Option.{option_copied}
use Rattle.lx_abi.specs.Calls.{calls, call_format}
use Rattle.lx_abi.specs.Tables.{call_row}
use Rattle.lx_abi.proofs.calls.call_format.Goals as goal

pub returns : goal.returns
unfolding call_format
returns c =
    let row : option_map call_row (option_copied c.row_numbered.result) ≡ find (λ row. row.0 == c.args.number) calls = c.row_numbered.ensures ∙ ap (λ rows. find (λ row. row.0 == c.args.number) rows) c.rows.ensures in
    let f : option_map (λ f. (f.entry.now, f.rest.now)) c.map.result ≡ option_map (λ row. (row.4, row.5)) (option_map call_row (option_copied c.row_numbered.result)) = search rules in
    f ∙ ap (λ o. option_map (λ row. (row.4, row.5)) o) row
