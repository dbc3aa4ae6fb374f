use Rattle.std.proofs.Common.{◌≡◌, Some, ap, sym, subst, ◌∙◌}
use Rattle.lx_abi.specs.declared.log.Item.TheVariants as item
use Rattle.lx_model.specs.declared.event.PtraceEvent.TheVariants.{Plain}
use Rattle.lx_model.specs.Turn.{turn}
use Rattle.lx_model.specs.declared.stage.Task.TheVariants.{Alive}
use Rattle.lx_open.specs.Releases.{AreEndsKept}
use Rattle.lx_proc.specs.declared.state.Shared.{Shared}
use Rattle.lx_turn.specs.Linux.{linux}
use Rattle.lx_turn.specs.Injection.{choice_of_call, choice_of_task}
use Rattle.lx_turn.specs.Turned.{turned, turned_by}
use Rattle.lx_turn.specs.Turned.{EndsSame}
use Rattle.lx_turn.proofs.Consoles.{end_keeps}
use Rattle.lx_turn.proofs.Consoles.{on_err}
use Rattle.lx_turn.proofs.turning.turn_task.Goals as goal

pub returns-in-Continue-clause-turned : goal.returns-in-Continue-clause-turned
returns-in-Continue-clause-turned c =
    ap (λ o. turned (turn linux (choice_of_task c.args.injection.now c.args.pid o) c.args.shared.now c.args.child c.args.pid o)) c.in-Alive.is
    ∙ c.in_ok-done-in-Alive.ensures.turned
    ∙ ap (λ w. turned_by w c.turn_alive.new.shared c.turn_alive.new.user c.args.pid c.in-Alive.stage c.turn_alive.new.stage c.turn_alive.new.item) c.in-Continue.is

pub returns-in_ok-ends_kept-in-Break-clause-turned : goal.returns-in_ok-ends_kept-in-Break-clause-turned
returns-in_ok-ends_kept-in-Break-clause-turned c =
    ap (λ o. turned (turn linux (choice_of_task c.args.injection.now c.args.pid o) c.args.shared.now c.args.child c.args.pid o)) c.in-Alive.is
    ∙ c.in_ok-done-in-Alive.ensures.turned
    ∙ ap (λ w. turned_by w c.turn_alive.new.shared c.turn_alive.new.user c.args.pid c.in-Alive.stage c.turn_alive.new.stage c.turn_alive.new.item) c.in-Break.is
    ∙ λ i. record { shared = sym c.in_ok-ends_kept-in-Break.ensures.died i; task = sym c.end.ensures i; item = Some (item.Exit c.args.pid c.in-Break.word (sym c.mode-left.ensures i)); event = Plain }

pub returns-in_err-ends_kept-in-Break-clause-console : goal.returns-in_err-ends_kept-in-Break-clause-console
returns-in_err-ends_kept-in-Break-clause-console c =
    on_err (c.die.new.shared.console ≡ c.args.shared.now.console) c.from_residual-in_err-ends_kept-in-Break.result
    (c.in_err-ends_kept-in-Break.ensures.console
    ∙ end_keeps (choice_of_call c.args.injection.now c.args.pid c.in-Alive.user) c.args.shared.now c.turn_alive.new.shared c.args.child c.args.pid c.in-Break.word (Alive c.in-Alive.user c.in-Alive.stage) c.turn_alive.new.user c.in-Alive.stage c.turn_alive.new.stage c.turn_alive.new.item
    (c.in_ok-done-in-Alive.ensures.turned ∙ ap (λ w. turned_by w c.turn_alive.new.shared c.turn_alive.new.user c.args.pid c.in-Alive.stage c.turn_alive.new.stage c.turn_alive.new.item) c.in-Break.is))

pub returns-in_ok-ends_kept-in-Break-clause-ends : goal.returns-in_ok-ends_kept-in-Break-clause-ends
returns-in_ok-ends_kept-in-Break-clause-ends c = λ e.
    subst (λ (s : Shared). AreEndsKept s.fds c.die.new.shared.fds)
    (subst (λ w. EndsSame w c.args.shared.now c.turn_alive.new.shared) c.in-Break.is c.in_ok-done-in-Alive.ensures.ends)
    (c.in_ok-ends_kept-in-Break.ensures.kept e)
