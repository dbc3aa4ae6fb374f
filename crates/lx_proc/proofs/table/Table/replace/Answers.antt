use Rattle.std.proofs.Common.{◌≡◌, sym, ap, subst, refl, false, ◌&&◌, ◌∙◌, nat_lt, Some}
use Rattle.std.specs.Option.{option_map}
use Rattle.std.specs.FinMap as maps
use Rattle.lx_proc.specs.State.{Entry, Entries, changed}
use Rattle.lx_proc.specs.Pairs.{PairSet, Sets}
use Rattle.lx_proc.specs.Families.{Lists, AreFamilies}
use Rattle.lx_proc.proofs.Kin.{lists_kin, lists_kin_life}
use Rattle.lx_proc.proofs.table.Table.replace.Goals as goal

pub invariant_of-self-2 : goal.invariant_of-self-2
invariant_of-self-2 c =
    let m = c.self.inside.entries in
    let f = λ (e : Entry). c.args.entry in
    let parent = c.args.entry.parent in
    let is = sym (ap (λ (t : Entries). option_map (λ e. e.parent) (maps.get t c.args.pid)) c.self.view_is ∙ c.requires) in
    subst (AreFamilies c.set_zombie.new.self) (sym c.write_entry.ensures) (record {
      children = subst (λ (s : PairSet). Lists s false (changed m c.args.pid f)) (sym c.set_zombie.ensures.children) (lists_kin c.self.inside.families.children m c.args.pid parent c.args.entry refl is c.self.invariant.children);
      zombies = lists_kin_life c.self.inside.families.zombies c.set_zombie.new.self.zombies m c.args.pid parent c.args.entry refl is c.self.invariant.zombies
          (subst (λ b. Sets parent c.args.pid (b && nat_lt 0 parent) c.self.inside.families.zombies c.set_zombie.new.self.zombies) c.is_zombie.ensures c.in_ok-set_zombie.ensures.zombies);
    })
