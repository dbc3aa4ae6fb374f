use Rattle.std.proofs.Common.{rules, ◌≡◌, List, ◌++◌, ap, sym, subst, ◌∙◌}
use Rattle.sweep_runs.specs.Rows.{AreRows}
use Rattle.sweep_rows.specs.declared.wanted.Case.{Case}
use Rattle.sweep_rows.specs.declared.row.Row.{Row}
use Rattle.sweep_threads.proofs.Joining.{rows_are_joined, grouped}
use Rattle.sweep_threads.proofs.batches.run_batches.Goals as goal

pub loop-left-preserved : goal.loop-left-preserved
loop-left-preserved g c =
    let s = c.args.setup.now in
    let r = c.args.reference.now in
    let l = c.loop-left in
    let done = l.invariant.0 in
    let batch = c.split_at.result.0.now in
    let rest = c.split_at.result.1.now in
    let more = c.in_ok-more.more.items in
    let items : c.append.new.self.items ≡ l.rows.items ++ more = search rules in (
      done ++ batch,
      grouped done batch rest c.args.cases.now (ap (λ (cases : List Case). done ++ cases) (sym c.split_at.ensures.by_index.0) ∙ l.invariant.1),
      subst (λ (all : List Row). AreRows s r (done ++ batch) all) (sym items)
          (rows_are_joined s r done batch l.rows.items more l.invariant.2 c.in_ok-more.ensures),
    )
