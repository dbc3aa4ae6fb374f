use Rattle.std.proofs.Common.{rules, tests, ◌∙◌, sym, ap, option_map}
use Rattle.std.specs.Str.{bytes_eq}
use Rattle.std.proofs.lemmas.Iterator.{YieldsList-from_slice}
use Rattle.std.proofs.lemmas.Iterator.Search.{find_from_yields_List}
use Rattle.lx_abi.specs.Tables.{signal_row}
use Rattle.lx_abi.proofs.Finds.{find-map}
use Rattle.lx_abi.proofs.signal.row_named.Goals as goal

pub returns : goal.returns
returns c =
    let found = find_from_yields_List (λ row. bytes_eq row.1.now c.args.name.now) _ _ c.find.result c.find.ensures.ran (YieldsList-from_slice c.args.rows.now (cc)) (λ x b q k. search (rules, tests)) in
    ap (λ o. option_map signal_row o) found ∙ sym (find-map signal_row (λ row. bytes_eq row.1 c.args.name.now) c.args.rows.now)
