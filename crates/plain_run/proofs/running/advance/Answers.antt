use Rattle.std.proofs.Common.{◌≡◌, ◌-◌, ◌<◌, suc, List, subst, arith}
use Rattle.lx_abi.specs.Log.{Noted}
use Rattle.lx_kernel.specs.Advances.{Leads}
use Rattle.plain_run.proofs.Turning.{leads_row, told_row}
use Rattle.plain_run.proofs.Noting.{leads_notes}
use Rattle.plain_run.proofs.running.advance.Goals as goal

pub returns-in-Ok-tell-clause-row : goal.returns-in-Ok-tell-clause-row
returns-in-Ok-tell-clause-row g c =
    let turns = c.in-Ok.advanced.turns in
    let some : 0 < turns = c.in-Ok.ensures.some c.requires in
    let count : turns ≡ suc (turns - 1) = omega (arith, some) in
    leads_row (turns - 1) c.args.kernel.now c.advance.new.self c.args.pid c.advance.new.item c.in-Ok.advanced.event
    (subst (λ n. Leads c.args.kernel.now c.args.pid n c.advance.new.item c.in-Ok.advanced.event c.advance.new.self) count c.in-Ok.ensures.leads)

pub returns-in-Ok-tell-clause-told : goal.returns-in-Ok-tell-clause-told
returns-in-Ok-tell-clause-told g c =
    told_row c.in-Ok.advanced.turns c.args.kernel.now c.advance.new.self c.args.pid c.advance.new.item c.in-Ok.advanced.event (g.W.Watch.told c.args.watch.now) (g.W.Watch.told c.tell.new.watch)
    c.in-Ok.ensures.leads c.tell.ensures.told

pub returns-in-Err-tell-clause-told : goal.returns-in-Err-tell-clause-told
returns-in-Err-tell-clause-told g c =
    told_row c.in-Ok.advanced.turns c.args.kernel.now c.advance.new.self c.args.pid c.advance.new.item c.in-Ok.advanced.event (g.W.Watch.told c.args.watch.now) (g.W.Watch.told c.tell.new.watch)
    c.in-Ok.ensures.leads c.tell.ensures.told

pub returns-in-Ok-tell-clause-noted : goal.returns-in-Ok-tell-clause-noted
returns-in-Ok-tell-clause-noted g c = λ first ns before.
    subst (λ (l : List Noted). g.W.Watch.noting first c.tell.new.watch l)
    (leads_notes c.in-Ok.advanced.turns c.args.kernel.now c.advance.new.self c.args.pid c.advance.new.item c.in-Ok.advanced.event
    c.in-Ok.ensures.leads ns)
    (c.tell.ensures.noted first ns before)
