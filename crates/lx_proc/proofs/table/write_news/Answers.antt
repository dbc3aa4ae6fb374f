use Rattle.std.proofs.Common.{◌≡◌, subst, sym, ◌∙◌}
use Rattle.std.specs.Prelude.{OnSome}
use Rattle.std.specs.FinMap as maps
use Rattle.lx_proc.specs.State.{Entry}
use Rattle.lx_proc.proofs.Tables.{changed_by}
use Rattle.lx_proc.proofs.table.write_news.Goals as goal

pub returns-in-Some : goal.returns-in-Some
returns-in-Some c =
    let e = c.in-Some.entry.now in
    let f = λ (e : Entry). record e { news = c.args.news } in
    subst (λ r. OnSome r (c.get_mut.follows.lender (f e) ≡ maps.insert c.args.entries.now c.args.pid (f e))) c.in-Some.is (c.get_mut.follows.holds (f e))
    ∙ sym (changed_by c.args.entries.now c.args.pid f e c.in-Some.ensures.value)
