use Rattle.std.proofs.Common.{sym, subst, true, false}
use Rattle.lx_proc.specs.Families.{Lists}
use Rattle.lx_proc.proofs.Kin.{lists_empty}
use Rattle.lx_proc.proofs.table.Table.new.Goals as goal

pub invariant_of-result : goal.invariant_of-result
invariant_of-result c = record {
  children = subst (Lists c.new-2.result.children false) (sym c.new.ensures) (lists_empty _ false c.new-2.ensures.children);
  zombies = subst (Lists c.new-2.result.zombies true) (sym c.new.ensures) (lists_empty _ true c.new-2.ensures.zombies);
}
