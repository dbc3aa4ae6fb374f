use Rattle.std.proofs.Common.{sym, subst, refl, true, false}
use Rattle.lx_proc.specs.State.{Entry}
use Rattle.lx_proc.specs.Families.{AreFamilies}
use Rattle.lx_proc.proofs.Kin.{lists_alike}
use Rattle.lx_proc.proofs.table.Table.set_news.Goals as goal

pub invariant_of-self : goal.invariant_of-self
invariant_of-self c =
    let m = c.self.inside.entries in
    let f = λ (e : Entry). record e { news = c.args.news } in
    subst (AreFamilies c.self.inside.families) (sym c.write_news.ensures) (record {
      children = lists_alike _ false m c.args.pid f (λ p e. refl) c.self.invariant.children;
      zombies = lists_alike _ true m c.args.pid f (λ p e. refl) c.self.invariant.zombies;
    })
