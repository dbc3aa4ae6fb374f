use Rattle.std.proofs.Common.{ℕ, Option, sym, subst, ◌∙◌}
use Rattle.lx_turn.specs.Injection.{choice_of_task}
use Rattle.lx_turn.specs.Turned.{unboxed}
use Rattle.lx_kernel.specs.Waking.{WakesFew, LeavesStopped, told_in}
use Rattle.lx_kernel.proofs.Few.{few_is, taken_few}
use Rattle.lx_kernel.proofs.Stopping.{taken_leaves}
use Rattle.lx_kernel.proofs.waking.take_turn.Goals as goal

pub returns-clause-few : goal.returns-clause-few
returns-clause-few c = λ e.
    let s = c.args.shared.now in
    let s' = c.turn_task.new.shared in
    let task = c.args.task.now in
    let task' = c.turn_task.new.task in
    let event = unboxed c.in_ok-transition.transition.done in
    subst (λ told. WakesFew s s' c.args.child c.args.pid told c.changed_in-changed.result event) (sym c.told_of-told.ensures)
    (subst (λ (changed : Option ℕ). WakesFew s s' c.args.child c.args.pid (told_in s c.args.pid task) changed event) (sym c.changed_in-changed.ensures)
    (taken_few (choice_of_task c.args.injection.now c.args.pid task) s s' c.args.child c.args.pid task task' c.turn_task.new.item event c.in_ok-transition.ensures.turned
    (few_is s s' c.args.child task task' c.is_few-few.result c.in_ok-transition.transition.ends_kept c.is_few-few.ensures c.in_ok-transition.ensures.ends (sym c.woke_few.ensures ∙ e))))

pub returns-clause-stopped : goal.returns-clause-stopped
returns-clause-stopped c =
    let s = c.args.shared.now in
    let s' = c.turn_task.new.shared in
    let task = c.args.task.now in
    let event = unboxed c.in_ok-transition.transition.done in
    subst (λ told. LeavesStopped s s' c.args.child c.args.pid told event) (sym c.told_of-told.ensures)
    (taken_leaves (choice_of_task c.args.injection.now c.args.pid task) s s' c.args.child c.args.pid task c.turn_task.new.task c.turn_task.new.item event c.in_ok-transition.ensures.turned)
