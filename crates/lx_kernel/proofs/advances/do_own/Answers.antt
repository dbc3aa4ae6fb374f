use Rattle.std.proofs.Common.{sym, subst}
use Rattle.lx_model.specs.Machine.{with_result}
use Rattle.lx_turn.specs.Linux.{linux}
use Rattle.lx_kernel.specs.Advances.{IsDone}
use Rattle.lx_kernel.proofs.OwnCalls.{own_call, reply_done}
use Rattle.lx_kernel.proofs.advances.do_own.Goals as goal

pub returns-clause-done : goal.returns-clause-done
returns-clause-done c =
    let s = c.args.shared.now in
    let call = c.args.call.now in
    let b = c.args.user.now in
    let left = c.process_call.new.user in
    let own = own_call s c.args.child c.args.pid call b c.requires in
    let done = reply_done s c.args.child c.args.pid call b own c.in_ok-reply.reply c.process_call.new.shared left c.in_ok-reply.ensures.answer c.in_ok-reply.ensures.kept in
    subst (λ x. IsDone s c.args.child c.args.pid call b x c.result_of-result.result) (sym c.return_from_call.ensures)
    (subst (λ x. IsDone s c.args.child c.args.pid call b (with_result linux left x) x) (sym c.result_of-result.ensures) done.1)

pub returns-clause-same : goal.returns-clause-same
returns-clause-same c =
    let s = c.args.shared.now in
    let call = c.args.call.now in
    let b = c.args.user.now in
    let own = own_call s c.args.child c.args.pid call b c.requires in
    (reply_done s c.args.child c.args.pid call b own c.in_ok-reply.reply c.process_call.new.shared c.process_call.new.user c.in_ok-reply.ensures.answer c.in_ok-reply.ensures.kept).0
