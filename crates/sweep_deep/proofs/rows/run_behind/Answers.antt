use Rattle.std.proofs.Common.{List, subst, sym}
use Rattle.sweep_rows.specs.declared.wanted.Case.{Case}
use Rattle.sweep_deep.specs.Rows.{AreTriedDeep}
use Rattle.sweep_deep.proofs.rows.run_behind.Goals as goal

pub returns-clause-row : goal.returns-clause-row
returns-clause-row c = record {
  first = c.in_ok-first.ensures.row;
  seconds = c.in_ok-seconds.seconds.items;
  are_seconds = c.in_ok-seconds.ensures;
  rows =
      subst (λ (case : Case). AreTriedDeep c.args.plan.now c.args.reference.now case c.in_ok-seconds.seconds.items c.in_ok-rows.rows.items)
      (sym c.in_ok-first.ensures.case)
      (subst (λ (cases : List Case). AreTriedDeep c.args.plan.now c.args.reference.now c.args.case cases c.in_ok-rows.rows.items)
      c.as_slice.ensures.value c.in_ok-rows.ensures);
}
