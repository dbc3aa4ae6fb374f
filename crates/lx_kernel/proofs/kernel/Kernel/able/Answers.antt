use Rattle.std.proofs.Common.{sym, subst}
use Rattle.std.specs.Prelude.{IsTrue, ◌↔◌}
use Rattle.lx_kernel.specs.Scheduling.{can_turn_in}
use Rattle.lx_kernel.specs.Runs.{Run, is_able_in}
use Rattle.lx_kernel.proofs.Moving.{able_where_turns}
use Rattle.lx_kernel.proofs.kernel.Kernel.able.Goals as goal

pub returns : goal.returns
returns c =
    let k = c.self.inside in
    let run : Run = record { running = record { shared = k.shared; tasks = k.tasks; child = k.child; log = k.log.items }; script = k.script; follow = k.follow; failed = k.failed; keeps_log = k.log.keeps } in
    subst (λ b. IsTrue b ↔ is_able_in c.args.self.now c.args.pid) (sym c.can_turn_at.ensures)
    (subst (λ r. IsTrue (can_turn_in k.shared k.tasks c.args.pid) ↔ is_able_in r c.args.pid) c.self.view_is (able_where_turns run c.args.pid))
