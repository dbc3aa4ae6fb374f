use Rattle.std.proofs.Common.{◌≡◌, subst, sym, ◌∙◌}
use Rattle.std.specs.Prelude.{OnSome}
use Rattle.std.specs.FinMap as maps
use Rattle.lx_proc.specs.State.{Entry}
use Rattle.lx_proc.proofs.Tables.{changed_by}
use Rattle.lx_proc.proofs.table.write_entry.Goals as goal

pub returns-in-Some : goal.returns-in-Some
returns-in-Some c =
    let f = λ (e : Entry). c.args.entry in
    subst (λ r. OnSome r (c.get_mut.follows.lender c.args.entry ≡ maps.insert c.args.entries.now c.args.pid c.args.entry)) c.in-Some.is (c.get_mut.follows.holds c.args.entry)
    ∙ sym (changed_by c.args.entries.now c.args.pid f c.in-Some.place.now c.in-Some.ensures.value)
