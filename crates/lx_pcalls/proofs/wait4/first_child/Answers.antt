use Rattle.std.proofs.Common.{sym, ◌∙◌}
use Rattle.lx_pcalls.specs.Wait4.{any_child}
use Rattle.lx_pcalls.proofs.Children.{unequal, first_wanted, none_wanted}
use Rattle.lx_pcalls.proofs.wait4.first_child.Goals as goal

pub returns-then-is_child : goal.returns-then-is_child
returns-then-is_child c =
    first_wanted c.args.entries.now c.args.parent c.args.asked c.args.wanted (unequal c.args.wanted any_child c.if-wanted-eq-ANY.false) (sym c.is_child.ensures ∙ c.if-is_child.true)

pub returns : goal.returns
returns c =
    none_wanted c.args.entries.now c.args.parent c.args.asked c.args.wanted (unequal c.args.wanted any_child c.if-wanted-eq-ANY.false) (sym c.is_child.ensures ∙ c.if-is_child.false)
