use Rattle.std.proofs.Common.{ℕ, Option, ap, sym, subst, ◌∙◌}
use Rattle.std.specs.FinMap as maps
use Rattle.lx_model.specs.Finite.{at}
use Rattle.lx_model.specs.declared.stage.Task.TheVariants.{Gone}
use Rattle.lx_kernel.specs.Sleeping.{SleepsBy}
use Rattle.lx_kernel.proofs.Placed.{other_put, other_left}
use Rattle.lx_kernel.proofs.Sleeping.{put_there}
use Rattle.lx_kernel.proofs.Filing.{rests_by}
use Rattle.lx_kernel.proofs.run_queue.RunQueue.sort.Goals as goal

pub returns-then-rests-clause-filed : goal.returns-then-rests-clause-filed
returns-then-rests-clause-filed c = λ known unwatched.
    rests_by c.forget.new.self.by_pipe c.args.shared.now c.args.pid (at Gone c.args.tasks.now c.args.pid) (sym c.rests.ensures ∙ c.if-rests.true)

pub returns-then-rests-clause-others : goal.returns-then-rests-clause-others
returns-then-rests-clause-others c = λ known. (
  sym c.forget.ensures.known ∙ known,
  λ q ne. (
    ap (λ m. maps.get m q) c.forget.ensures.awake ∙ other_left c.args.self.now.awake c.args.pid q ne,
    ap (λ m. maps.get m q) c.forget.ensures.asleep ∙ other_left c.args.self.now.asleep c.args.pid q ne,
    λ n. c.forget.ensures.others q n ne,
  ),
)

pub returns-else-rests-clause-itself : goal.returns-else-rests-clause-itself
returns-else-rests-clause-itself c = λ known unwatched.
    (sym c.can_turn_at.ensures ∙ c.if-not-can_turn_at.true, λ unslept. put_there c.args.self.now.asleep c.put_to_sleep.new.self.asleep c.args.pid c.used-pipe.result (c.put_to_sleep.ensures.asleep known) unslept)

pub returns-else-rests-clause-filed : goal.returns-else-rests-clause-filed
returns-else-rests-clause-filed c = λ known unwatched.
    subst (λ (pipe : Option ℕ). SleepsBy c.put_to_sleep.new.self.by_pipe pipe c.args.pid) c.used-pipe.ensures (c.put_to_sleep.ensures.there known)

pub returns-else-rests-clause-others : goal.returns-else-rests-clause-others
returns-else-rests-clause-others c = λ known. (
  c.put_to_sleep.ensures.known known,
  λ q ne. (
    ap (λ m. maps.get m q) c.put_to_sleep.ensures.awake ∙ other_left c.args.self.now.awake c.args.pid q ne,
    ap (λ m. maps.get m q) (c.put_to_sleep.ensures.asleep known) ∙ other_put c.args.self.now.asleep c.args.pid q ne c.used-pipe.result,
    λ n. c.put_to_sleep.ensures.others q n ne,
  ),
)

pub returns-else-may_be_blocked-clause-itself : goal.returns-else-may_be_blocked-clause-itself
returns-else-may_be_blocked-clause-itself c = λ known unwatched. absurd (c.keep_awake.ensures.itself known unwatched)

pub returns-else-may_be_blocked-clause-filed : goal.returns-else-may_be_blocked-clause-filed
returns-else-may_be_blocked-clause-filed c = λ known unwatched. absurd (c.keep_awake.ensures.itself known unwatched)
