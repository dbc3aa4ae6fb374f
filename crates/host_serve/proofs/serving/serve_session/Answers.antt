use Rattle.std.proofs.Common.{arith, refl}
use Rattle.host_serve.proofs.Conversing.{can_answer, fails_first, starts, goes_further, ends_finished, ends_reading, ends_asked, ends_sending, ends_late, next_is}
use Rattle.host_serve.proofs.serving.serve_session.Goals as goal

pub returns-in_default : goal.returns-in_default
returns-in_default g c = fails_first _ _ _ _

pub loop-number-init : goal.loop-number-init
loop-number-init g c = record { serves = starts _ _ _; due = refl; fresh = c.new-feed.ensures; room = omega (arith, c.in-Ok.ensures.len); out = c.requires.out }

pub returns-in-Err : goal.returns-in-Err
returns-in-Err g c = ends_reading c.in-Err.fault c.loop-number.invariant.serves c.in-Err.ensures.next

pub respond-requires : goal.respond-requires
respond-requires g c = can_answer g.S.Session.ready g.S.Session.given _ c.loop-number.invariant.due (omega (arith, c.loop-number-test.true))

pub returns-in-Err-respond : goal.returns-in-Err-respond
returns-in-Err-respond g c = ends_asked g.S.Session.fails c.in-Ok-Some.request c.in-Err-respond.fault _ c.loop-number.invariant.serves (next_is c.in-Ok-Some.field-0-is c.in-Ok-Some.ensures.next) c.in-Err-respond.ensures.responds

pub returns-in-Err-send : goal.returns-in-Err-send
returns-in-Err-send g c = ends_sending c.respond.new.phase c.in-Ok-Some.request c.in-Ok-respond.reply c.in-Err-send.fault c.loop-number.invariant.serves (next_is c.in-Ok-Some.field-0-is c.in-Ok-Some.ensures.next) c.in-Ok-respond.ensures.responds c.in-Err-send.ensures.sent

pub returns-in-Ok-None : goal.returns-in-Ok-None
returns-in-Ok-None g c = ends_finished c.outcome_of.result c.loop-number.invariant.serves (next_is c.in-Ok-None.field-0-is c.in-Ok-None.ensures.next) c.outcome_of.ensures

pub loop-number-preserved : goal.loop-number-preserved
loop-number-preserved g c = record {
  serves = goes_further c.respond.new.phase c.in-Ok-Some.request c.in-Ok-respond.reply c.loop-number.invariant.serves (next_is c.in-Ok-Some.field-0-is c.in-Ok-Some.ensures.next) c.in-Ok-respond.ensures.responds c.in-Ok-send.ensures.sent;
  due = c.in-Ok-respond.ensures.due _ c.loop-number.invariant.due;
  fresh = c.in-Ok-Some.ensures.no_further (rw c.in-Ok-Some.field-0-is refl);
  room = c.loop-number.invariant.room;
  out = c.in-Ok-send.ensures.out;
}

pub returns : goal.returns
returns g c = ends_late (omega (arith, c.loop-number-test.false, c.loop-number.auto.number-end)) c.loop-number.invariant.serves
