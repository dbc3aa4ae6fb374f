use Rattle.lx_turn.proofs.calls.does.Goals as goal

pub returns-clause-kept : goal.returns-clause-kept
returns-clause-kept c = c.interrupt.ensures.kept c.args.shared.now c.args.user.now c.in_ok-reply.ensures.kept
