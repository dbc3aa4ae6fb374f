use Rattle.std.proofs.Common.{ℕ, Option, true, refl, sym, subst}
use Rattle.lx_kernel.specs.Sleeping.{SleepsBy}
use Rattle.lx_kernel.proofs.Filing.{pairs_others, pair_there, by_this, by_none}
use Rattle.lx_kernel.proofs.run_queue.put_by_pipe.Goals as goal

pub returns-in-None : goal.returns-in-None
returns-in-None c = record {
  there = subst (λ (pipe : Option ℕ). SleepsBy c.args.by_pipe.now pipe c.args.pid) (sym c.in-None.is) (by_none c.args.by_pipe.now c.args.pid);
  others = λ q n ne. refl;
}

pub returns-in-Ok : goal.returns-in-Ok
returns-in-Ok c = record {
  there =
      subst (λ (pipe : Option ℕ). SleepsBy c.set.new.self pipe c.args.pid) (sym c.in-Some.is)
      (by_this c.set.new.self c.in-Some.pipe c.args.pid (pair_there c.in-Some.pipe c.args.pid c.args.by_pipe.now c.set.new.self c.in-Ok.ensures.ok));
  others = pairs_others c.in-Some.pipe c.args.pid true c.args.by_pipe.now c.set.new.self c.in-Ok.ensures.ok;
}
