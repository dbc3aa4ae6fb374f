use Rattle.lx_kernel.proofs.Filing.{filed_but, apart_but, watched_up_to, all_by_watched}
use Rattle.lx_kernel.proofs.run_queue.RunQueue.wake_by.Goals as goal

pub loop-pid-preserved : goal.loop-pid-preserved
loop-pid-preserved c = record {
  filed = λ known.
      let same = c.sort.ensures.others known in
      filed_but c.loop-pid.self c.sort.new.self c.args.shared.now c.in-Some.pid same c.args.tasks.now (c.sort.ensures.filed known) (λ q up ne. c.loop-pid.invariant.filed same.0 q up);
  apart = λ known.
      let same = c.sort.ensures.others known in
      apart_but c.loop-pid.self c.args.shared.now c.args.tasks.now c.args.pipe c.loop-pid.passed (c.loop-pid.invariant.filed same.0) (c.loop-pid.invariant.apart same.0) (c.loop-pid.invariant.seen same.0)
      c.sort.new.self c.in-Some.pid same (c.sort.ensures.itself known);
  seen = λ known.
      let same = c.sort.ensures.others known in
      watched_up_to c.loop-pid.self c.args.shared.now c.args.tasks.now c.args.pipe c.loop-pid.passed (c.loop-pid.invariant.filed same.0) (c.loop-pid.invariant.apart same.0) (c.loop-pid.invariant.seen same.0)
      c.sort.new.self c.in-Some.pid c.in-Some.ensures same (c.sort.ensures.itself known);
}

pub returns-clause-watch : goal.returns-clause-watch
returns-clause-watch c = λ known.
    all_by_watched c.loop-pid.self c.args.shared.now c.args.tasks.now c.args.pipe c.loop-pid.passed (c.loop-pid.invariant.filed known) (c.loop-pid.invariant.apart known) (c.loop-pid.invariant.seen known) c.in_default.ensures
