use Rattle.std.proofs.Common.{rules}
use Rattle.trace_command.proofs.Turned.{all_numbered, rows_more, rows_numbered}
use Rattle.trace_command.proofs.turns_out.write_rows.Goals as goal

pub loop-row-preserved : goal.loop-row-preserved
loop-row-preserved g c = (
  rows_more c.args.rows.now c.loop-row.row-index c.loop-row.left _ _ _ _ _ _ c.loop-row-test.true
      (search rules) c.in_ok-left.ensures.left c.loop-row.invariant.0 c.in_ok-left.ensures.text,
  rows_numbered c.args.rows.now c.loop-row.row-index _ c.loop-row-test.true (search rules) c.loop-row.invariant.1
      c.in_ok-left.ensures.numbers,
)

pub returns-clause-numbers : goal.returns-clause-numbers
returns-clause-numbers g c = search (rules, all_numbered)
