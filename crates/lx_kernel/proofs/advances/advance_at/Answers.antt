use Rattle.std.proofs.Common.{◌≡◌, ℕ, sym, subst, ap, ◌∙◌, unwrap_or}
use Rattle.std.specs.Prelude.{OnSome}
use Rattle.std.specs.FinMap as maps
use Rattle.lx_model.specs.Finite.{at}
use Rattle.lx_model.specs.declared.stage.Task.TheVariants.{Gone}
use Rattle.lx_turn.specs.Modes.{task_mode}
use Rattle.lx_model.specs.declared.event.PtraceEvent.TheVariants.{Plain}
use Rattle.lx_kernel.specs.Advances.{Leads, with_log, with_tasks}
use Rattle.lx_kernel.specs.Scheduling.{Tasks}
use Rattle.lx_kernel.specs.Sleeping.{IsKept}
use Rattle.lx_kernel.proofs.Advancing.{absent_leads, put_leads}
use Rattle.lx_kernel.proofs.Placed.{get_put}
use Rattle.lx_kernel.proofs.Watching.{put_kept}
use Rattle.lx_kernel.proofs.advances.advance_at.Goals as goal

pub returns-in-None-clause-leads : goal.returns-in-None-clause-leads
returns-in-None-clause-leads c = λ k fits here.
    subst (λ (n : ℕ). Leads k c.args.pid n c.args.item.now Plain (with_log (with_tasks k c.get_mut.follows.lender-at-none) c.args.item.now)) (sym c.none.ensures.turns)
    (absent_leads k c.args.pid c.args.tasks.now c.get_mut.follows.lender-at-none c.args.item.now here c.get_mut.follows.holds-at-none c.requires)

pub returns-in_ok-advanced-in-Some-clause-leads : goal.returns-in_ok-advanced-in-Some-clause-leads
returns-in_ok-advanced-in-Some-clause-leads c = λ k fits here.
    let tasks = c.args.tasks.now in
    let w = c.advance_task.new.task in
    let h = subst (λ r. OnSome r (c.get_mut.follows.lender w ≡ maps.insert tasks c.args.pid w)) c.in-Some.is (c.get_mut.follows.holds w) in
    put_leads c.args.injection.now c.args.shared.now c.args.child c.args.pid c.in_ok-advanced-in-Some.advanced.turns c.in-Some.task.now c.advance_task.new.item w c.in_ok-advanced-in-Some.ensures.leads
    k fits tasks (c.get_mut.follows.lender w) here c.in-Some.ensures.value h

pub returns-in_ok-advanced-in-Some-clause-after : goal.returns-in_ok-advanced-in-Some-clause-after
returns-in_ok-advanced-in-Some-clause-after c =
    let tasks = c.args.tasks.now in
    let w = c.advance_task.new.task in
    let h = subst (λ r. OnSome r (c.get_mut.follows.lender w ≡ maps.insert tasks c.args.pid w)) c.in-Some.is (c.get_mut.follows.holds w) in
    c.in_ok-advanced-in-Some.ensures.after
    ∙ ap (task_mode (maps.get c.advance_task.new.shared.entries c.args.pid)) (sym (ap (λ (o : Tasks). at Gone o c.args.pid) h ∙ ap (λ o. unwrap_or o Gone) (get_put tasks c.args.pid w)))

pub returns-in_ok-advanced-in-Some-clause-kept : goal.returns-in_ok-advanced-in-Some-clause-kept
returns-in_ok-advanced-in-Some-clause-kept c = λ q.
    let s = c.args.shared.now in
    let tasks = c.args.tasks.now in
    let w = c.advance_task.new.task in
    let h = subst (λ r. OnSome r (c.get_mut.follows.lender w ≡ maps.insert tasks c.args.pid w)) c.in-Some.is (c.get_mut.follows.holds w) in
    subst (λ (o : Tasks). IsKept s q (at Gone tasks q) (at Gone o q)) (sym h)
    (put_kept s tasks c.args.pid c.in-Some.task.now w c.in-Some.ensures.value c.in_ok-advanced-in-Some.ensures.kept q)

pub returns-in_ok-advanced-in-Some-clause-before : goal.returns-in_ok-advanced-in-Some-clause-before
returns-in_ok-advanced-in-Some-clause-before c =
    c.in_ok-advanced-in-Some.ensures.before
    ∙ ap (λ o. task_mode (maps.get c.args.shared.now.entries c.args.pid) (unwrap_or o Gone)) c.in-Some.ensures.value
