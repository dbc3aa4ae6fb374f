use Rattle.std.proofs.Common.{ap, sym, subst, ◌∙◌}
use Rattle.lx_model.specs.Finite.{Running}
use Rattle.lx_proc.specs.declared.state.Shared.{Shared}
use Rattle.lx_proc.specs.declared.state.UserState.{UserState}
use Rattle.lx_kernel.specs.Runs.{Run}
use Rattle.lx_kernel.specs.Tracing.{task_in, with_change, with_part}
use Rattle.lx_kernel.proofs.Reaching.{whole}
use Rattle.lx_model.specs.Finite.{at}
use Rattle.lx_model.specs.declared.stage.Task.TheVariants.{Gone}
use Rattle.lx_kernel.specs.Scheduling.{Tasks}
use Rattle.lx_kernel.specs.Sleeping.{AreWatched, AreFiled}
use Rattle.lx_kernel.proofs.Watching.{awake_kept, wake_watch, awake_filed, wake_filing}
use Rattle.lx_kernel.proofs.kernel.Kernel.set_stage.Goals as goal

pub returns-clause-part : goal.returns-clause-part
returns-clause-part c =
    let k = c.self.inside in
    let v : Running Shared UserState = record { shared = k.shared; tasks = k.tasks; child = k.child; log = k.log.items } in
    let run : Run = record { running = v; script = k.script; follow = k.follow; failed = k.failed; keeps_log = k.log.keeps } in
    ap (λ o. record run { running = record v { tasks = o } }) c.set_stage.ensures.part
    ∙ whole run c.args.pid (with_change c.args.change (task_in run c.args.pid))
    ∙ ap (λ k. with_part k c.args.pid (with_change c.args.change (task_in k c.args.pid))) c.self.view_is

pub invariant_of-self : goal.invariant_of-self
invariant_of-self c = λ e.
    let k = c.self.inside in
    let h = c.self.invariant e in
    let x = (with_change c.args.change (at Gone k.tasks c.args.pid)) in (
      h.0,
      λ known.
          subst (λ (o : Tasks). AreWatched c.keep_awake.new.self k.shared o) (sym c.set_stage.ensures.part)
          (awake_kept c.keep_awake.new.self k.shared k.tasks c.args.pid x (c.keep_awake.ensures.itself known)
          (wake_watch k.run_queue c.keep_awake.new.self k.shared k.tasks c.args.pid c.keep_awake.ensures.others c.keep_awake.ensures.itself h.1 known)),
      λ known.
          subst (λ (o : Tasks). AreFiled c.keep_awake.new.self k.shared o) (sym c.set_stage.ensures.part)
          (awake_filed c.keep_awake.new.self k.shared k.tasks c.args.pid x (c.keep_awake.ensures.itself known)
          (wake_filing k.run_queue c.keep_awake.new.self k.shared k.tasks c.args.pid c.keep_awake.ensures.others c.keep_awake.ensures.itself h.2 known)),
    )
