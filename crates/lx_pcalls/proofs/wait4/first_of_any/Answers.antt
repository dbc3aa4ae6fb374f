use Rattle.std.proofs.Common.{sym, ◌∙◌}
use Rattle.lx_pcalls.specs.Wait4.{any_child, is_child, first_child}
use Rattle.lx_pcalls.proofs.Finding.{first_zero}
use Rattle.lx_pcalls.proofs.Children.{child_there, first_any}
use Rattle.lx_pcalls.proofs.wait4.first_of_any.Goals as goal

pub returns-then-is_child : goal.returns-then-is_child
unfolding first_child
returns-then-is_child c =
    first_zero (is_child c.args.entries.now c.args.parent any_child c.args.asked) c.args.entries.now
    (child_there c.args.entries.now c.args.parent any_child c.args.asked) (sym c.is_child.ensures ∙ c.if-is_child.true)

pub returns : goal.returns
returns c = first_any c.args.entries.now c.args.parent c.args.asked c.next_of_any.result (sym c.is_child.ensures ∙ c.if-is_child.false) c.next_of_any.ensures
