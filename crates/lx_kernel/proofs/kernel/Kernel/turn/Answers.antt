use Rattle.std.proofs.Common.{◌<◌, arith}
use Rattle.lx_kernel.proofs.Advancing.{one_turn}
use Rattle.lx_kernel.proofs.kernel.Kernel.turn.Goals as goal

pub returns-clause-item : goal.returns-clause-item
returns-clause-item c =
    let a = c.in_ok-advanced.advanced in
    (one_turn a.turns c.args.self.now c.advance.new.self c.args.pid c.advance.new.item a.event (c.in_ok-advanced.ensures.some (omega arith)) c.in_ok-advanced.ensures.within c.in_ok-advanced.ensures.leads).item_is

pub returns-clause-event : goal.returns-clause-event
returns-clause-event c =
    let a = c.in_ok-advanced.advanced in
    (one_turn a.turns c.args.self.now c.advance.new.self c.args.pid c.advance.new.item a.event (c.in_ok-advanced.ensures.some (omega arith)) c.in_ok-advanced.ensures.within c.in_ok-advanced.ensures.leads).event_is

pub returns-clause-turned : goal.returns-clause-turned
returns-clause-turned c =
    let a = c.in_ok-advanced.advanced in
    (one_turn a.turns c.args.self.now c.advance.new.self c.args.pid c.advance.new.item a.event (c.in_ok-advanced.ensures.some (omega arith)) c.in_ok-advanced.ensures.within c.in_ok-advanced.ensures.leads).turned
