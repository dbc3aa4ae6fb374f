use Rattle.std.proofs.Common.{rules}
use Rattle.lx_abi.specs.Calls.{calls}
use Rattle.tr_expr.specs.Items.{is_among}
use Rattle.tr_expr.proofs.Rows.{kept, kept_all}
use Rattle.tr_expr.proofs.item.calls_in.Goals as goal

pub loop-row-init : goal.loop-row-init
loop-row-init c = λ n. search rules

pub loop-row-preserved : goal.loop-row-preserved
loop-row-preserved c = λ n.
    kept (λ row. is_among c.args.class row.2) c.rows-row-items.result.now c.loop-row.row-index n c.loop-row.numbers.items c.keep.new.numbers.items c.is_among.result
    c.loop-row-test.true (c.loop-row.invariant n) (c.in_ok-keep.ensures n) c.is_among.ensures

pub returns : goal.returns
returns c = λ n.
    kept_all (λ row. is_among c.args.class row.2) c.rows-row-items.result.now calls c.loop-row.row-index n c.loop-row.numbers.items
    c.loop-row-test.false c.rows-row-items.ensures (c.loop-row.invariant n)
