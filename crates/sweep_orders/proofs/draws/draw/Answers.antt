use Rattle.std.proofs.Common.{rules, ◌≡◌, ℕ, List, [], ◌∷◌, length, refl, ap, subst, ◌∙◌, arith, append-nil}
use Rattle.std.specs.Prelude.{◌==◌}
use Rattle.sweep_orders.specs.Draws.{chosen, IsDrawn}
use Rattle.sweep_orders.proofs.Drawing.{one_drawn, pushed, none_listed, some_listed}
use Rattle.sweep_orders.proofs.draws.draw.Goals as goal

pub loop-left-preserved : goal.loop-left-preserved
loop-left-preserved c = λ ps z d.
    let l = c.loop-left in
    let pid = c.chosen-pid.result in
    let able = c.in_ok-able.able.items in
    let word = c.next_word.result in
    let empty : c.is_empty.result ≡ (length able == 0) = search rules in
    let some = some_listed able c.is_empty.result empty c.if-is_empty.false in
    let drawn : pid ≡ chosen able word = c.chosen-pid.ensures ∙ ap (λ (pids : List ℕ). chosen pids word) c.as_slice.ensures.value in
    subst (λ (pids : List ℕ). IsDrawn pids c.args.turns c.args.kernel.now c.args.chance.now z)
    (pushed l.pids.items c.push.new.self.items ps pid c.in_ok-push.ensures.items)
    (l.invariant (pid ∷ ps) z
    (one_drawn ps l.left l.kernel c.step.new.kernel z l.chance c.next_word.new.self able word pid c.in_ok-left.left
    c.in_ok-able.ensures some drawn c.next_word.ensures c.in_ok-left.ensures d))

pub returns-then-is_empty : goal.returns-then-is_empty
returns-then-is_empty c =
    let l = c.loop-left in
    let able = c.in_ok-able.able.items in
    let empty : c.is_empty.result ≡ (length able == 0) = search rules in
    subst (λ (pids : List ℕ). IsDrawn pids c.args.turns c.args.kernel.now c.args.chance.now l.kernel) (append-nil l.pids.items)
    (l.invariant [] l.kernel (refl, λ _. none_listed l.kernel able c.is_empty.result empty c.if-is_empty.true c.in_ok-able.ensures))

pub returns : goal.returns
returns c =
    let l = c.loop-left in
    subst (λ (pids : List ℕ). IsDrawn pids c.args.turns c.args.kernel.now c.args.chance.now l.kernel) (append-nil l.pids.items)
    (l.invariant [] l.kernel (refl, λ some. absurd (let none = c.loop-left-test.false in omega (arith, some, none))))
