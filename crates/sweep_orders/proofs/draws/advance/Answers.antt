use Rattle.std.proofs.Common.{◌≡◌, ◌-◌, ◌<◌, suc, subst, arith}
use Rattle.lx_kernel.specs.Advances.{Leads}
use Rattle.plain_run.proofs.Turning.{leads_row}
use Rattle.sweep_orders.proofs.draws.advance.Goals as goal

pub returns-in-Ok-clause-row : goal.returns-in-Ok-clause-row
returns-in-Ok-clause-row c =
    let turns = c.in-Ok.advanced.turns in
    let some : 0 < turns = c.in-Ok.ensures.some c.requires in
    let count : turns ≡ suc (turns - 1) = omega (arith, some) in
    leads_row (turns - 1) c.args.kernel.now c.advance.new.self c.args.pid c.advance.new.item c.in-Ok.advanced.event
    (subst (λ n. Leads c.args.kernel.now c.args.pid n c.advance.new.item c.in-Ok.advanced.event c.advance.new.self) count c.in-Ok.ensures.leads)
