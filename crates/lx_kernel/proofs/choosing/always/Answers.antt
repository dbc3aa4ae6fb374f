use Rattle.std.proofs.Common.{ap, ◌∙◌}
use Rattle.lx_abi.specs.Scripts.{choice_of}
use Rattle.lx_kernel.proofs.Choices.{always_chosen}
use Rattle.lx_kernel.proofs.choosing.always.Goals as goal

pub returns : goal.returns
returns c =
    ap choice_of (c.new-2.ensures ∙ c.in_ok-push.ensures.items)
    ∙ always_chosen c.new-rules.result.items c.args.choice c.rule.result c.new-rules.ensures.items c.rule.ensures
