use Rattle.host_link.proofs.Replies.{nothing_left, reply_failed, reply_received, where_ok}
use Rattle.host_link.proofs.pipe.receive_reply.Goals as goal

pub returns-in-Err-clause-came : goal.returns-in-Err-clause-came
returns-in-Err-clause-came g c = rw c.fault_of.ensures (reply_failed c.in-Err.fault c.args.sent.now c.requires.fresh c.in-Err.ensures.received)

pub returns-clause-came : goal.returns-clause-came
returns-clause-came g c =
    let is = c.in-Ok-Some.field-0-is in
    let received = c.in-Ok-Some.ensures.received in
    let alone = c.in-Ok-Some.ensures.no_further in
    rw c.reply_in.ensures (reply_received c.in-Ok-Some.frame c.args.sent.now c.requires.fresh is received alone)

pub returns-clause-no_further : goal.returns-clause-no_further
returns-clause-no_further g c =
    where_ok _ (nothing_left c.requires.fresh c.in-Ok-Some.field-0-is c.in-Ok-Some.ensures.no_further)
