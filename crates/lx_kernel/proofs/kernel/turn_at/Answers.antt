use Rattle.std.proofs.Common.{◌≡◌, ap, sym, subst, refl, ◌∙◌}
use Rattle.std.specs.Prelude.{OnSome}
use Rattle.std.specs.FinMap as maps
use Rattle.lx_model.specs.Turn.{turn}
use Rattle.lx_turn.specs.Linux.{linux}
use Rattle.lx_turn.specs.Injection.{choice_of_task}
use Rattle.lx_turn.specs.Turned.{turned}
use Rattle.lx_kernel.specs.Turns.{without_gone}
use Rattle.lx_model.specs.Finite.{at, placed}
use Rattle.lx_model.specs.declared.stage.Task.TheVariants.{Gone}
use Rattle.lx_turn.specs.Modes.{task_mode}
use Rattle.lx_kernel.proofs.Few.{same_few}
use Rattle.lx_kernel.proofs.Placing.{somebody, nobody, placed_by, at_placed}
use Rattle.lx_kernel.proofs.kernel.turn_at.Goals as goal

pub returns-in-None-clause-turns : goal.returns-in-None-clause-turns
returns-in-None-clause-turns c =
    nobody (λ task. turned (turn linux (choice_of_task c.args.injection.now c.args.pid task) c.args.shared.now c.args.child c.args.pid task)) c.args.tasks.now c.get_mut.follows.lender-at-none c.args.pid c.args.item.now c.of_gone.result.done c.args.shared.now
    c.in-None.ensures.value refl c.get_mut.follows.holds-at-none c.requires (ap (λ t. t.done) c.of_gone.ensures)

pub returns-in-None-clause-few : goal.returns-in-None-clause-few
returns-in-None-clause-few c = λ e. same_few c.args.shared.now c.args.child c.args.pid _ _ _

pub returns-clause-turns : goal.returns-clause-turns
returns-clause-turns c =
    let w = c.take_turn.new.task in
    let h = subst (λ r. OnSome r (c.get_mut.follows.lender w ≡ maps.insert c.args.tasks.now c.args.pid w)) c.in-Some.is (c.get_mut.follows.holds w) in
    somebody (λ task. turned (turn linux (choice_of_task c.args.injection.now c.args.pid task) c.args.shared.now c.args.child c.args.pid task)) c.args.tasks.now c.remove_gone.new.tasks c.args.pid c.in-Some.task.now w c.take_turn.new.item c.in_ok-transition-in-Some.transition.done c.take_turn.new.shared
    c.in-Some.ensures.value c.in_ok-transition-in-Some.ensures.turned
    (placed_by c.args.tasks.now c.args.pid w c.in_ok-transition-in-Some.transition.gone (sym c.in_ok-transition-in-Some.ensures.gone) ∙ ap (λ m. without_gone m c.args.pid c.in_ok-transition-in-Some.transition.gone) (sym h) ∙ sym c.remove_gone.ensures)

pub returns-clause-after : goal.returns-clause-after
returns-clause-after c =
    let w = c.take_turn.new.task in
    let h = subst (λ r. OnSome r (c.get_mut.follows.lender w ≡ maps.insert c.args.tasks.now c.args.pid w)) c.in-Some.is (c.get_mut.follows.holds w) in
    let there : placed c.args.tasks.now c.args.pid w ≡ c.remove_gone.new.tasks =
    placed_by c.args.tasks.now c.args.pid w c.in_ok-transition-in-Some.transition.gone (sym c.in_ok-transition-in-Some.ensures.gone) ∙ ap (λ m. without_gone m c.args.pid c.in_ok-transition-in-Some.transition.gone) (sym h) ∙ sym c.remove_gone.ensures in
    c.in_ok-transition-in-Some.ensures.after
    ∙ ap (task_mode (maps.get c.take_turn.new.shared.entries c.args.pid)) (sym (at_placed c.args.tasks.now c.args.pid w) ∙ ap (λ m. at Gone m c.args.pid) there)
