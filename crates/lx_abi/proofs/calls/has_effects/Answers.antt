use Rattle.std.proofs.Common.{◌∙◌, ap}
use Rattle.lx_abi.specs.Calls.{has_effects, some_has}
use Rattle.lx_abi.proofs.calls.has_effects.Goals as goal

pub returns : goal.returns
unfolding has_effects
returns c = c.effects_in.ensures ∙ ap (λ rows. some_has rows c.args.number c.args.effects.0) c.rows.ensures
