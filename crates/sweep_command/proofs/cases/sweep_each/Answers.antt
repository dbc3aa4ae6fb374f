use Rattle.std.proofs.Common.{◌++◌, ℕ, List, [], ◌∷◌, ap, sym, subst, ◌∙◌, append_assoc, append-nil}
use Rattle.std.proofs.lemmas.List.{nil_from_length}
use Rattle.sweep_words.specs.declared.cases.NamedCase.{NamedCase}
use Rattle.sweep_command.specs.Reports.{AreOfSweeps}
use Rattle.sweep_command.proofs.cases.sweep_each.Goals as goal

pub loop-case-preserved : goal.loop-case-preserved
loop-case-preserved g c = λ ss h.
    let before = c.loop-case.statuses.items in
    let status = c.in_ok-status.status in
    subst (λ (all : List ℕ). AreOfSweeps c.args.cases.now all)
    (sym (ap (λ (xs : List ℕ). xs ++ ss) c.in_ok-push.ensures.items ∙ append_assoc before (status ∷ []) ss))
    (c.loop-case.invariant (status ∷ ss)
    (subst (λ (cs : List NamedCase). AreOfSweeps cs (status ∷ ss)) (sym c.in-Some.ensures.cases.0) (c.in_ok-status.ensures, h)))

pub returns : goal.returns
returns g c =
    subst (λ (all : List ℕ). AreOfSweeps c.args.cases.now all) (append-nil c.loop-case.statuses.items)
    (c.loop-case.invariant []
    (subst (λ (cs : List NamedCase). AreOfSweeps cs [])
    (sym (nil_from_length c.loop-case.left.now c.in_default.ensures.cases)) tt))
