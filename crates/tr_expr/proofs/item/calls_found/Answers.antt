use Rattle.std.proofs.Common.{rules, ◌∙◌, ap, is_some}
use Rattle.lx_abi.specs.Calls.{calls}
use Rattle.regex.specs.Patterns.{find_str}
use Rattle.regex.specs.Strings.{regex_pattern}
use Rattle.tr_expr.specs.Items.{is_found}
use Rattle.tr_expr.proofs.Rows.{entry_at, kept, kept_all}
use Rattle.tr_expr.proofs.item.calls_found.Goals as goal

pub loop-row-init : goal.loop-row-init
loop-row-init c = record {
  same = c.in_ok-matcher.ensures.pattern;
  picks = λ n. search rules;
}

pub loop-row-preserved : goal.loop-row-preserved
loop-row-preserved c = record {
  same = c.is_match.ensures.same ∙ c.loop-row.invariant.same;
  picks = λ n.
      kept (λ row. is_found (regex_pattern c.args.pattern.now) row.1) c.rows-row-items.result.now c.loop-row.row-index n c.loop-row.numbers.items c.keep.new.numbers.items c.is_match.result
      c.loop-row-test.true (c.loop-row.invariant.picks n) (c.in_ok-keep.ensures n)
      (c.is_match.ensures.found ∙ ap (λ re. is_some (find_str re (entry_at c.rows-row-items.result.now c.loop-row.row-index).1.now 0)) c.loop-row.invariant.same);
}

pub returns : goal.returns
returns c = λ n.
    kept_all (λ row. is_found (regex_pattern c.args.pattern.now) row.1) c.rows-row-items.result.now calls c.loop-row.row-index n c.loop-row.numbers.items
    c.loop-row-test.false c.rows-row-items.ensures (c.loop-row.invariant.picks n)
