use Rattle.std.proofs.Common.{sym, subst, refl, false, ◌&&◌, nat_lt}
use Rattle.lx_proc.specs.State.{Entry, changed}
use Rattle.lx_proc.specs.Pairs.{PairSet, Sets}
use Rattle.lx_proc.specs.Families.{Lists, AreFamilies}
use Rattle.lx_proc.proofs.Kin.{lists_alike, lists_life}
use Rattle.lx_proc.proofs.table.Table.set_life.Goals as goal

pub invariant_of-self-2 : goal.invariant_of-self-2
invariant_of-self-2 c =
    let m = c.self.inside.entries in
    let f = λ (e : Entry). record e { life = c.args.life } in
    subst (AreFamilies c.set_zombie.new.self) (sym c.write_life.ensures) (record {
      children = subst (λ (s : PairSet). Lists s false (changed m c.args.pid f)) (sym c.set_zombie.ensures.children) (lists_alike c.self.inside.families.children false m c.args.pid f (λ p e. refl) c.self.invariant.children);
      zombies = lists_life c.self.inside.families.zombies c.set_zombie.new.self.zombies m c.args.pid c.in-Some.parent c.args.life c.in-Some.ensures c.self.invariant.zombies
          (subst (λ b. Sets c.in-Some.parent c.args.pid (b && nat_lt 0 c.in-Some.parent) c.self.inside.families.zombies c.set_zombie.new.self.zombies) c.is_zombie.ensures c.in_ok-set_zombie.ensures.zombies);
    })
