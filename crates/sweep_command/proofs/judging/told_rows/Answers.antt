use Rattle.std.proofs.Common.{Bool, sym, subst}
use Rattle.sweep_command.specs.Checks.{AreTold}
use Rattle.sweep_command.proofs.Judged.{judged_are_told, made_are_told}
use Rattle.sweep_command.proofs.judging.told_rows.Goals as goal

pub returns-then-not-is_checked-clause-told : goal.returns-then-not-is_checked-clause-told
returns-then-not-is_checked-clause-told g c =
    let s = c.args.setup.now in
    let r = c.args.reference.now in
    let rows = c.in_ok-rows.rows.items in
    subst (λ (b : Bool). AreTold b s r c.args.cases.now rows) (sym c.if-not-is_checked.true)
    (made_are_told s r c.args.cases.now rows c.in_ok-rows.ensures.rows)

pub returns-clause-told : goal.returns-clause-told
returns-clause-told g c =
    let s = c.args.setup.now in
    let r = c.args.reference.now in
    let made = c.in_ok-rows.rows.items in
    let rows = c.in_ok-judged.judged.items in
    subst (λ (b : Bool). AreTold b s r c.args.cases.now rows) (sym c.if-not-is_checked.false)
    (judged_are_told s r c.args.cases.now made rows c.in_ok-rows.ensures.rows c.in_ok-judged.ensures)
