use Rattle.std.proofs.Common.{sym, subst, true, false}
use Rattle.lx_proc.specs.Families.{AreFamilies}
use Rattle.lx_proc.proofs.Kin.{lists_none, lists_less}
use Rattle.lx_proc.proofs.table.Table.remove.Goals as goal

pub invariant_of-self : goal.invariant_of-self
invariant_of-self c =
    let m = c.self.inside.entries in
    subst (AreFamilies c.self.inside.families) (sym c.remove.ensures.rest) (record {
      children = lists_none _ false m c.args.pid c.in-None.ensures.value c.self.invariant.children;
      zombies = lists_none _ true m c.args.pid c.in-None.ensures.value c.self.invariant.zombies;
    })

pub invariant_of-self-in-Some : goal.invariant_of-self-in-Some
invariant_of-self-in-Some c =
    let m = c.self.inside.entries in
    subst (AreFamilies c.remove-in-Some.new.self) (sym c.remove.ensures.rest) (record {
      children = lists_less _ _ false m c.args.pid c.in-Some.entry c.in-Some.ensures.value c.self.invariant.children c.remove-in-Some.ensures.children;
      zombies = lists_less _ _ true m c.args.pid c.in-Some.entry c.in-Some.ensures.value c.self.invariant.zombies c.remove-in-Some.ensures.zombies;
    })
