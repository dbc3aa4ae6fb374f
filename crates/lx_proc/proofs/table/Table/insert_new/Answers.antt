use Rattle.std.proofs.Common.{◌≡◌, ◌∙◌, ap, sym, subst, None}
use Rattle.std.specs.FinMap as maps
use Rattle.lx_proc.specs.State.{Entries}
use Rattle.lx_proc.specs.Families.{AreFamilies}
use Rattle.lx_proc.proofs.Kin.{families_more, families_kept}
use Rattle.lx_proc.proofs.table.Table.insert_new.Goals as goal

pub invariant_of-self : goal.invariant_of-self
invariant_of-self c =
    let m = c.self.inside.entries in
    let none : maps.get m c.args.pid ≡ None = ap (λ (t : Entries). maps.get t c.args.pid) c.self.view_is ∙ c.requires in
    subst (AreFamilies c.put.new.families) (sym c.in-Ok.ensures.ok) (families_more c.self.inside.families c.put.new.families m c.args.pid c.args.entry none c.self.invariant c.in-Ok.ensures.listed)

pub invariant_of-self-in-Err : goal.invariant_of-self-in-Err
invariant_of-self-in-Err c =
    let m = c.self.inside.entries in
    let none : maps.get m c.args.pid ≡ None = ap (λ (t : Entries). maps.get t c.args.pid) c.self.view_is ∙ c.requires in
    subst (AreFamilies c.remove.new.self) (sym c.in-Err.ensures.kept) (families_kept c.self.inside.families c.put.new.families c.remove.new.self m c.args.pid c.args.entry none c.self.invariant c.in-Err.ensures.others c.remove.ensures)
