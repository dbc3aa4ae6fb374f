use Rattle.std.proofs.Common.{◌≡◌, ℕ, List, [], ◌∷◌, ◌++◌, Bor, ap, ◌∙◌, arith}
use Rattle.std.proofs.lemmas.List.{map-append}
use Rattle.rv_asm.specs.Lines.{line_of}
use Rattle.rv_syntax.specs.Text.{texts}
use Rattle.rv_asm.proofs.LabelSteps.{label_next, label_none, labels_end}
use Rattle.rv_asm.proofs.line.split_labels.Goals as goal

pub returns-in-None : goal.returns-in-None
unfolding line_of
returns-in-None c = label_none _ c.loop.counter c.loop.body.now (texts c.loop.labels.items) _ c.loop-test.true c.in-None.ensures c.loop.invariant

pub loop-preserved : goal.loop-preserved
loop-preserved c =
    let pushed : texts c.push.new.self.items ≡ texts c.loop.labels.items ++ c.in-Some.name.now ∷ [] =
    ap texts c.in_ok-push-in-Some.ensures.items ∙ map-append (λ (l : Bor (List ℕ)). l.now) c.loop.labels.items (c.in-Some.name ∷ []) in
    rw pushed (label_next _ c.loop.counter c.loop.body.now c.in-Some.name.now c.in-Some.rest.now (texts c.loop.labels.items) _ c.loop-test.true c.in-Some.ensures c.loop.invariant)

pub returns : goal.returns
unfolding line_of
returns c = labels_end _ c.loop.counter c.loop.body.now (texts c.loop.labels.items) _ (omega arith) c.loop.invariant
