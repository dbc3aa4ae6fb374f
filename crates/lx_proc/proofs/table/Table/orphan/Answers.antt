use Rattle.std.proofs.Common.{sym, subst, true, false}
use Rattle.lx_proc.specs.Families.{AreFamilies}
use Rattle.lx_proc.proofs.Kin.{lists_orphan}
use Rattle.lx_proc.proofs.table.Table.orphan.Goals as goal

pub invariant_of-self : goal.invariant_of-self
invariant_of-self c =
    let m = c.self.inside.entries in
    subst (AreFamilies c.remove.new.self) (sym c.write_parent.ensures) (record {
      children = lists_orphan _ _ false m c.args.pid c.in-Some.parent c.in-Some.ensures c.self.invariant.children c.remove.ensures.children;
      zombies = lists_orphan _ _ true m c.args.pid c.in-Some.parent c.in-Some.ensures c.self.invariant.zombies c.remove.ensures.zombies;
    })
