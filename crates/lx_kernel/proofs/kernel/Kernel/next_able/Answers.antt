use Rattle.std.proofs.Common.{subst, ap}
use Rattle.std.specs.Option.{unwrap_or}
use Rattle.lx_model.specs.declared.stage.Task.TheVariants.{Gone}
use Rattle.lx_kernel.specs.Runs.{Run}
use Rattle.lx_kernel.specs.Scheduling.{IsNextOf}
use Rattle.lx_kernel.proofs.NextAble.{next_in}
use Rattle.lx_kernel.proofs.Sleeping.{gone_blocked}
use Rattle.lx_kernel.proofs.kernel.Kernel.next_able.Goals as goal

pub next_in_cycle-requires : goal.next_in_cycle-requires
next_in_cycle-requires c = λ q up none. gone_blocked c.self.inside.shared q _ (ap (λ o. unwrap_or o Gone) none)

pub returns-then-not-self : goal.returns-then-not-self
returns-then-not-self c =
    let k = c.self.inside in
    let run : Run = record { running = record { shared = k.shared; tasks = k.tasks; child = k.child; log = k.log.items }; script = k.script; follow = k.follow; failed = k.failed; keeps_log = k.log.keeps } in
    subst (λ r. IsNextOf r c.args.after c.next_in_cycle.result) c.self.view_is (next_in run c.args.after c.next_in_cycle.result c.next_in_cycle.ensures)

pub returns-else-not-self : goal.returns-else-not-self
returns-else-not-self c =
    let k = c.self.inside in
    let run : Run = record { running = record { shared = k.shared; tasks = k.tasks; child = k.child; log = k.log.items }; script = k.script; follow = k.follow; failed = k.failed; keeps_log = k.log.keeps } in
    subst (λ r. IsNextOf r c.args.after c.next_in_cycle-else-not-self.result) c.self.view_is (next_in run c.args.after c.next_in_cycle-else-not-self.result c.next_in_cycle-else-not-self.ensures)
