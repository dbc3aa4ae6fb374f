use Rattle.std.proofs.Common.{rules, tests, ◌==◌, ◌∙◌, sym, ap, option_map}
use Rattle.std.proofs.lemmas.Iterator.{YieldsList-from_slice}
use Rattle.std.proofs.lemmas.Iterator.Search.{find_from_yields_List}
use Rattle.call_errors.specs.Errors.{error_row}
use Rattle.lx_abi.proofs.Finds.{find-map}
use Rattle.call_errors.proofs.table.row_numbered.Goals as goal

pub returns : goal.returns
returns c =
    let found = find_from_yields_List (λ row. row.0 == c.args.number) _ _ c.find.result c.find.ensures.ran (YieldsList-from_slice c.args.rows.now (cc)) (λ x b q k. search (rules, tests)) in
    ap (λ o. option_map error_row o) found ∙ sym (find-map error_row (λ row. row.0 == c.args.number) c.args.rows.now)
