use Rattle.std.proofs.Common.{rules, tests, ◌==◌, ◌&&◌, ◌∙◌, sym}
use Rattle.std.specs.Int.RustNames.{bit_and}
use Rattle.std.proofs.lemmas.Iterator.{YieldsList-from_slice}
use Rattle.std.proofs.lemmas.Iterator.Search.{any_from_yields_List}
use Rattle.lx_abi.specs.Tables.{call_row}
use Rattle.lx_abi.proofs.Finds.{any-map}
use Rattle.lx_abi.proofs.calls.effects_in.Goals as goal

pub returns : goal.returns
returns c =
    let found = any_from_yields_List (λ row. (bit_and row.3.0 c.args.effects.0 == c.args.effects.0) && (c.args.number == row.0)) _ _ c.any.result c.any.ensures.ran (YieldsList-from_slice c.args.rows.now (cc)) (λ x b q k. search (rules, tests)) in
    found ∙ sym (any-map call_row (λ row. (bit_and row.3 c.args.effects.0 == c.args.effects.0) && (c.args.number == row.0)) c.args.rows.now)
