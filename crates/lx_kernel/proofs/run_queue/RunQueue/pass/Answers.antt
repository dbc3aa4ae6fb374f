use Rattle.std.proofs.Common.{sym, ◌∙◌}
use Rattle.lx_kernel.proofs.Sleeping.{all_awake, none_in_empty}
use Rattle.lx_kernel.proofs.Filing.{all_rest, filed_but, apart_after}
use Rattle.lx_kernel.proofs.run_queue.RunQueue.pass.Goals as goal

pub returns-then-not-may_be_blocked : goal.returns-then-not-may_be_blocked
returns-then-not-may_be_blocked c =
    let none = sym c.len.ensures ∙ c.if-len-eq0.true in
    record {
      watch = λ known. all_awake c.args.self.now c.args.shared.now c.args.tasks.now none (c.requires.listed known);
      filing = λ known. all_rest c.args.self.now c.args.shared.now c.args.tasks.now (none_in_empty c.args.self.now.asleep none) (c.requires.listed known);
    }

pub wake_changed-requires-clause-filed : goal.wake_changed-requires-clause-filed
wake_changed-requires-clause-filed c = λ known.
    let same = c.sort.ensures.others known in
    filed_but c.args.self.now c.sort.new.self c.args.shared.now c.args.pid same c.args.tasks.now (c.sort.ensures.filed known) (λ q up ne. c.requires.filed c.if-wakes.true same.0 q up ne)

pub wake_changed-requires-clause-apart : goal.wake_changed-requires-clause-apart
wake_changed-requires-clause-apart c = λ known.
    let same = c.sort.ensures.others known in
    apart_after c.args.self.now c.sort.new.self c.args.shared.now c.args.pid same c.args.tasks.now c.args.wakes.changed (c.sort.ensures.itself known) (λ q up ne. c.requires.watched c.if-wakes.true same.0 q up ne)
