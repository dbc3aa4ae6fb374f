use Rattle.std.proofs.Common.{ap, ◌∙◌}
use Rattle.std.specs.FinMap as maps
use Rattle.lx_open.specs.Opens.{FdTable}
use Rattle.lx_open.proofs.Taking.{slots_back, descriptions_back, nothing_taken}
use Rattle.lx_open.proofs.fd_table.FdTable.take_back.Goals as goal

pub returns-in_default : goal.returns-in_default
returns-in_default c = λ was d closes free added.
    absurd (nothing_taken was c.args.self.now c.args.pid c.args.fd d closes added c.remove.result c.in_default.not-Some (c.remove.ensures.value ∙ ap (maps.get c.args.self.now.slots) c.pair.ensures))

pub returns : goal.returns
returns c = λ was d closes free added.
    let there = c.in-Some.ensures.value ∙ ap (maps.get c.args.self.now.slots) c.pair.ensures in
    ap (λ (t : FdTable). record t { slots = c.remove.new.self; descriptions = c.remove-2.new.self }) added
    ∙ ap (λ m. record was { slots = m; descriptions = c.remove-2.new.self })
    (slots_back was c.args.self.now c.args.pid c.args.fd d closes c.remove.new.self free added (c.remove.ensures.rest ∙ ap (maps.remove c.args.self.now.slots) c.pair.ensures))
    ∙ ap (λ m. record was { descriptions = m })
    (descriptions_back was c.args.self.now c.args.pid c.args.fd d closes c.remove-2.new.self c.in-Some.slot added there c.remove-2.ensures.rest)
