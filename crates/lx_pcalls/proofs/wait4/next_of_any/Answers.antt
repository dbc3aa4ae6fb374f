use Rattle.std.proofs.Common.{Some, None, true, false, sym, ◌∙◌, subst}
use Rattle.lx_proc.specs.Pairs.{IsNextThat}
use Rattle.lx_pcalls.specs.Wait4.{any_child, is_child}
use Rattle.lx_pcalls.proofs.Children.{all_listed, zombies_listed, next_listed}
use Rattle.lx_pcalls.proofs.wait4.next_of_any.Goals as goal

pub returns-in-None : goal.returns-in-None
returns-in-None c =
    subst (λ asked. IsNextThat (is_child c.args.entries.now c.args.parent any_child asked) 0 c.next_child.result)
    (sym c.in-None.is)
    (next_listed c.args.entries.now c.args.parent None false all_listed c.next_child.result c.next_child.ensures)

pub returns-then-is_of_zombies : goal.returns-then-is_of_zombies
returns-then-is_of_zombies c =
    subst
    (λ asked.
    IsNextThat (is_child c.args.entries.now c.args.parent any_child asked) 0 c.next_child-then-is_of_zombies.result)
    (sym c.in-Some.is)
    (next_listed c.args.entries.now c.args.parent (Some c.in-Some.options) true
    (zombies_listed c.in-Some.options (sym c.is_of_zombies.ensures ∙ c.if-is_of_zombies.true))
    c.next_child-then-is_of_zombies.result c.next_child-then-is_of_zombies.ensures)
