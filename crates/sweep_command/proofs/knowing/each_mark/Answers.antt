use Rattle.std.proofs.Common.{◌++◌, Bool, List, [], ◌∷◌, ap, sym, subst, ◌∙◌, append_assoc, append-nil}
use Rattle.std.proofs.lemmas.List.{nil_from_length}
use Rattle.sweep_rows.specs.declared.row.Row.{Row}
use Rattle.sweep_command.specs.Reports.{AreMarks}
use Rattle.sweep_command.proofs.knowing.each_mark.Goals as goal

pub loop-row-preserved : goal.loop-row-preserved
loop-row-preserved c = λ ms h.
    let known = c.args.plan.now.known.items in
    let strict = c.args.plan.now.strict in
    let before = c.loop-row.marks.items in
    let mark = c.in_ok-mark.mark in
    subst (λ (all : List Bool). AreMarks strict known c.args.rows.now all)
    (sym (ap (λ (xs : List Bool). xs ++ ms) c.in_ok-push.ensures.items ∙ append_assoc before (mark ∷ []) ms))
    (c.loop-row.invariant (mark ∷ ms)
    (subst (λ (rs : List Row). AreMarks strict known rs (mark ∷ ms)) (sym c.in-Some.ensures.cases.0) (c.in_ok-mark.ensures, h)))

pub returns : goal.returns
returns c =
    subst (λ (all : List Bool). AreMarks c.args.plan.now.strict c.args.plan.now.known.items c.args.rows.now all) (append-nil c.loop-row.marks.items)
    (c.loop-row.invariant []
    (subst (λ (rs : List Row). AreMarks c.args.plan.now.strict c.args.plan.now.known.items rs [])
    (sym (nil_from_length c.loop-row.left.now c.in_default.ensures.cases)) tt))
