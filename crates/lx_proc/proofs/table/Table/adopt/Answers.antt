use Rattle.std.proofs.Common.{◌≡◌, sym, ap, subst, ◌∙◌, ◌&&◌, nat_lt}
use Rattle.std.specs.Option.{option_map}
use Rattle.std.specs.FinMap as maps
use Rattle.lx_proc.specs.State.{Entries}
use Rattle.lx_proc.specs.Families.{AreFamilies, Listed}
use Rattle.lx_proc.proofs.Kin.{families_adopted, families_spared}
use Rattle.lx_proc.proofs.table.Table.adopt.Goals as goal

pub invariant_of-self : goal.invariant_of-self
invariant_of-self c =
    let m = c.self.inside.entries in
    let is = sym (ap (λ (t : Entries). option_map (λ e. e.parent) (maps.get t c.args.pid)) c.self.view_is ∙ c.requires.there) in
    let parent = c.args.entry.parent in
    subst (AreFamilies c.remove.new.self) (sym c.write_entry.ensures) (families_adopted c.self.inside.families c.add.new.self c.remove.new.self m c.args.pid c.args.parent c.args.entry is c.requires.other c.self.invariant
    (subst (λ b. Listed parent c.args.pid (nat_lt 0 parent) (b && nat_lt 0 parent) c.self.inside.families c.add.new.self) c.is_zombie.ensures c.in-Ok.ensures.ok) c.remove.ensures)

pub invariant_of-self-in-Err-1 : goal.invariant_of-self-in-Err-1
invariant_of-self-in-Err-1 c =
    let m = c.self.inside.entries in
    let is = sym (ap (λ (t : Entries). option_map (λ e. e.parent) (maps.get t c.args.pid)) c.self.view_is ∙ c.requires.there) in
    families_spared c.self.inside.families c.add.new.self c.remove-in-Err.new.self m c.args.pid c.args.parent c.args.entry.parent is c.requires.other c.self.invariant c.in-Err.ensures.err c.remove-in-Err.ensures
