use Rattle.std.proofs.Common.{ap, sym, subst, ◌∙◌}
use Rattle.lx_model.specs.Finite.{Running}
use Rattle.lx_proc.specs.declared.state.Shared.{Shared}
use Rattle.lx_proc.specs.declared.state.UserState.{UserState}
use Rattle.lx_kernel.specs.Runs.{Run}
use Rattle.lx_kernel.specs.Tracing.{task_in, with_regs, with_part, with_part_at}
use Rattle.lx_kernel.proofs.Reaching.{whole}
use Rattle.lx_model.specs.Finite.{at}
use Rattle.lx_model.specs.declared.stage.Task.TheVariants.{Gone}
use Rattle.lx_kernel.specs.Scheduling.{Tasks}
use Rattle.lx_kernel.specs.Sleeping.{Watch, Filing}
use Rattle.lx_kernel.proofs.Filing.{filing_kept}
use Rattle.lx_kernel.proofs.Watching.{watch_kept, part_kept, regs_kept}
use Rattle.lx_kernel.proofs.kernel.Kernel.set_regs.Goals as goal

pub returns-clause-part : goal.returns-clause-part
returns-clause-part c =
    let k = c.self.inside in
    let v : Running Shared UserState = record { shared = k.shared; tasks = k.tasks; child = k.child; log = k.log.items } in
    let run : Run = record { running = v; script = k.script; follow = k.follow; failed = k.failed; keeps_log = k.log.keeps } in
    ap (λ o. record run { running = record v { tasks = o } }) c.set_regs.ensures.part
    ∙ whole run c.args.pid (with_regs c.args.registers.now (task_in run c.args.pid))
    ∙ ap (λ k. with_part k c.args.pid (with_regs c.args.registers.now (task_in k c.args.pid))) c.self.view_is

pub invariant_of-self : goal.invariant_of-self
invariant_of-self c = λ e.
    let k = c.self.inside in
    let h = c.self.invariant e in
    let x = (with_regs c.args.registers.now (at Gone k.tasks c.args.pid)) in (
      h.0,
      subst (λ (o : Tasks). Watch k.run_queue k.shared o) (sym c.set_regs.ensures.part)
          (watch_kept k.run_queue k.shared k.tasks (with_part_at k.tasks c.args.pid x) (part_kept k.shared k.tasks c.args.pid x (regs_kept k.shared c.args.pid c.args.registers.now (at Gone k.tasks c.args.pid))) h.1),
      subst (λ (o : Tasks). Filing k.run_queue k.shared o) (sym c.set_regs.ensures.part)
          (λ known. filing_kept k.run_queue k.shared k.tasks (with_part_at k.tasks c.args.pid x) (h.1 known) (part_kept k.shared k.tasks c.args.pid x (regs_kept k.shared c.args.pid c.args.registers.now (at Gone k.tasks c.args.pid))) (h.2 known)),
    )
