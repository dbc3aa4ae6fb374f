use Rattle.lx_kernel.proofs.Sleeping.{listed_but, blocked_up_to, all_watched}
use Rattle.lx_kernel.proofs.Filing.{filed_up_to, all_filed}
use Rattle.lx_kernel.proofs.run_queue.RunQueue.wake_unblocked.Goals as goal

pub loop-pid-preserved : goal.loop-pid-preserved
loop-pid-preserved c = record {
  listed = λ known.
      let same = c.sort.ensures.others known in
      listed_but c.loop-pid.self c.sort.new.self c.args.shared.now c.args.tasks.now c.in-Some.pid same (c.sort.ensures.itself known) (λ q up ne. c.loop-pid.invariant.listed same.0 q up);
  seen = λ known.
      let same = c.sort.ensures.others known in
      blocked_up_to c.loop-pid.self c.args.shared.now c.args.tasks.now c.loop-pid.passed (c.loop-pid.invariant.listed same.0) (c.loop-pid.invariant.seen same.0) c.sort.new.self c.in-Some.pid c.in-Some.ensures same (c.sort.ensures.itself known);
  filed = λ known.
      let same = c.sort.ensures.others known in
      filed_up_to c.loop-pid.self c.args.shared.now c.args.tasks.now c.loop-pid.passed (c.loop-pid.invariant.listed same.0) (c.loop-pid.invariant.filed same.0) c.sort.new.self c.in-Some.pid c.in-Some.ensures same (c.sort.ensures.filed known);
}

pub returns : goal.returns
returns c = record {
  watch = λ known. all_watched c.loop-pid.self c.args.shared.now c.args.tasks.now c.loop-pid.passed (c.loop-pid.invariant.listed known) (c.loop-pid.invariant.seen known) c.in_default.ensures;
  filing = λ known. all_filed c.loop-pid.self c.args.shared.now c.args.tasks.now c.loop-pid.passed (c.loop-pid.invariant.listed known) (c.loop-pid.invariant.filed known) c.in_default.ensures;
}
