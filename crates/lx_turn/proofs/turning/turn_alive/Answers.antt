use Rattle.std.proofs.Common.{ap, sym, ◌∙◌}
use Rattle.lx_model.specs.Turn.{killed_or}
use Rattle.lx_turn.specs.Linux.{linux}
use Rattle.lx_turn.specs.Injection.{choice_of_call}
use Rattle.lx_turn.specs.Turned.{turned}
use Rattle.lx_turn.proofs.turning.turn_alive.Goals as goal

pub returns-clause-turned : goal.returns-clause-turned
returns-clause-turned c =
    ap (λ b. turned (killed_or b linux (choice_of_call c.args.injection.now c.args.pid c.args.user.now) c.args.shared.now c.args.child c.args.pid c.args.user.now c.args.stage.now)) (sym c.is_killed.ensures ∙ c.if-is_killed.false)
    ∙ c.in_ok-course.ensures.turned
