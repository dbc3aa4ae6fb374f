use Rattle.std.proofs.Common.{rules, ◌≡◌, ◌==◌, ◌∙◌, option_map, find, ap}
use Rattle.std.specs.Option.{option_copied}
use Rattle.lx_abi.specs.Calls.{calls, call_classes}
use Rattle.lx_abi.specs.Tables.{call_row}
use Rattle.lx_abi.proofs.calls.call_classes.Goals as goal

pub returns : goal.returns
unfolding call_classes
returns c =
    let row : option_map call_row (option_copied c.row_numbered.result) ≡ find (λ row. row.0 == c.args.number) calls = c.row_numbered.ensures ∙ ap (λ rows. find (λ row. row.0 == c.args.number) rows) c.rows.ensures in
    let f : option_map (λ t. t.now) c.map.result ≡ option_map (λ row. row.2) (option_map call_row (option_copied c.row_numbered.result)) = search rules in
    f ∙ ap (λ o. option_map (λ row. row.2) o) row
