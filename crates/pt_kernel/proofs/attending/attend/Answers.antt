use Rattle.std.proofs.Common.{[], ◌∷◌, refl}
use Rattle.lx_abi.specs.declared.schedule.Event.TheVariants.{Serve, Turn}
use Rattle.pt_schedule.specs.Schedules.{events_left}
use Rattle.pt_schedule.proofs.Spending.{next_less}
use Rattle.pt_kernel.specs.AfterEvents.{after}
use Rattle.pt_kernel.specs.Hosts.{readiness_of}
use Rattle.pt_kernel.specs.Noted.{noting}
use Rattle.pt_kernel.proofs.Feeding.{answered_is, ended_is, noted_on, fewer_still}
use Rattle.pt_kernel.proofs.attending.attend.Goals as goal

pub returns-in-None-clause-attends : goal.returns-in-None-clause-attends
returns-in-None-clause-attends c = c.events.invariant _ _ (ended_is c.events.host c.events.schedule c.next.new.self c.events.noted c.in-None.ensures)

pub returns-in-Some-clause-attends : goal.returns-in-Some-clause-attends
returns-in-Some-clause-attends c = c.events.invariant _ _
    (answered_is c.events.host c.events.schedule Serve c.next.new.self c.serve.new.host c.in-Some.reply c.events.noted c.serve.new.noted
    (rw c.in-Some-Serve.field-0-is at c.in-Some-Serve.ensures) c.in_ok-reply-in-Some-Serve.ensures.after
    (rw c.in-Some.is at c.in_ok-reply-in-Some-Serve.ensures.reply) c.in_ok-reply-in-Some-Serve.ensures.noted)

pub events-smaller-in_default : goal.events-smaller-in_default
events-smaller-in_default c =
    next_less c.events.schedule (readiness_of c.events.host) Serve c.next.new.self (rw c.in-Some-Serve.field-0-is at c.in-Some-Serve.ensures)

pub events-preserved-in_default : goal.events-preserved-in_default
events-preserved-in_default c = λ z last rest. c.events.invariant z last
    (noted_on c.events.host c.events.schedule Serve c.next.new.self c.serve.new.host z c.events.noted c.serve.new.noted last (rw c.in-Some-Serve.field-0-is at c.in-Some-Serve.ensures)
    c.in_ok-reply-in-Some-Serve.ensures.after (rw c.in_default.is at c.in_ok-reply-in-Some-Serve.ensures.reply) c.in_ok-reply-in-Some-Serve.ensures.noted rest)

pub events-smaller : goal.events-smaller
events-smaller c =
    fewer_still (events_left c.turn.new.schedule) (events_left c.next.new.self) (events_left c.events.schedule) c.in_ok-turn-in-Some-Turn.ensures.fewer
    (next_less c.events.schedule (readiness_of c.events.host) (Turn c.in-Some-Turn.pid) c.next.new.self (rw c.in-Some-Turn.field-0-is at c.in-Some-Turn.ensures))

pub events-preserved : goal.events-preserved
events-preserved c = λ z last rest. c.events.invariant z last
    (noted_on c.events.host c.events.schedule (Turn c.in-Some-Turn.pid) c.next.new.self (after c.events.host (Turn c.in-Some-Turn.pid)) z c.events.noted (noting c.events.noted (Turn c.in-Some-Turn.pid ∷ [])) last
    (rw c.in-Some-Turn.field-0-is at c.in-Some-Turn.ensures) refl refl refl (c.in_ok-turn-in-Some-Turn.ensures.fed z last rest))
