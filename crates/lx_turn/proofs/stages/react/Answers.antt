use Rattle.std.proofs.Common.{◌≡◌, ap, ap₂, sym, subst, ◌∙◌}
use Rattle.lx_model.specs.Machine.{Took, Stops}
use Rattle.lx_model.specs.Turn.{halts, took}
use Rattle.lx_model.specs.declared.stage.Stage.TheVariants as stages
use Rattle.lx_proc.specs.declared.state.Shared.{Shared}
use Rattle.lx_proc.specs.declared.state.UserState.{UserState}
use Rattle.lx_pcalls.specs.Taking.{takes, took_of, TookKept}
use Rattle.lx_turn.specs.Linux.{linux}
use Rattle.lx_turn.specs.Turned.{turned, turned_by}
use Rattle.lx_turn.proofs.stages.react.Goals as goal

pub returns-in-Stopped-clause-turned : goal.returns-in-Stopped-clause-turned
returns-in-Stopped-clause-turned c =
    let stops : ◌≡◌ {A = Took Shared UserState} Stops (takes c.args.shared.now c.args.pid c.args.user.now c.args.signal c.args.cause) =
    sym (ap (λ r. took_of r c.take.new.shared c.take.new.user) c.in-Stopped.is) ∙ c.in_ok-take.ensures.took in
    let kept : (c.take.new.shared ≡ c.args.shared.now) × (c.take.new.user ≡ c.args.user.now) =
    subst (λ r. TookKept r c.args.shared.now c.args.user.now c.take.new.shared c.take.new.user) c.in-Stopped.is c.in_ok-take.ensures.kept in
    ap (λ a. turned (took linux c.args.shared.now c.args.pid c.args.user.now c.args.signal c.args.cause a)) (sym stops)
    ∙ ap₂ (λ (s : Shared) (b : UserState). turned (halts (linux.continued s c.args.pid) linux s c.args.pid b c.args.signal)) (sym kept.0) (sym kept.1)
    ∙ c.halt.ensures.turned
    ∙ ap (λ w. turned_by w c.halt.new.shared c.take.new.user c.args.pid (stages.Taken c.args.signal c.args.cause) c.halt.new.stage c.halt.new.item) (sym c.halt.ensures.course)
