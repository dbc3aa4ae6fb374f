use Rattle.std.proofs.Common.{rules, ◌≡◌, List, true, sym, subst}
use Rattle.std.specs.Prelude.{Some}
use Rattle.sweep_rows.specs.declared.row.Row.{Row}
use Rattle.sweep_command.specs.Reports.{IsFound, IsCut}
use Rattle.sweep_command.proofs.Cutting.{first_told}
use Rattle.sweep_command.proofs.rows.cut.Goals as goal

pub returns-in-Some : goal.returns-in-Some
returns-in-Some c =
    let batch = c.args.batch.now.items in
    let count = c.in-Some.count in
    let strict = c.args.plan.now.strict in
    let asked : c.args.fail_fast ≡ true = search rules in
    let found : IsFound strict batch (Some count) =
    subst (λ o. IsFound strict batch o) c.in-Some.is
    (subst (λ (rows : List Row). IsFound strict rows c.in_ok-count.field-0) c.as_slice.ensures.value c.in_ok-count.ensures) in
    subst (λ (rows : List Row). IsCut strict c.args.fail_fast batch rows true) (sym c.truncate.ensures.items)
    (first_told strict c.args.fail_fast batch count asked found)
