use Rattle.std.proofs.Common.{true, ap, sym, ◌∙◌}
use Rattle.sweep_rows.specs.Descriptors.{uses_in, with_use}
use Rattle.sweep_rows.specs.declared.descriptors.Use.{Use}
use Rattle.sweep_rows.proofs.Holding.{uses_same}
use Rattle.sweep_rows.proofs.descriptors.Descriptors.write.Goals as goal

pub returns-then-used-clause-uses : goal.returns-then-used-clause-uses
returns-then-used-clause-uses c =
    let uses = uses_in c.args.self.now in
    let used : Use = uses c.args.pid c.args.number in
    uses_same uses c.args.pid c.args.number (record used { wrote = true })
    (ap (λ b. record used { wrote = b }) (sym (ap (λ (u : Use). u.wrote) c.use_of-used.ensures) ∙ c.if-used.true))

pub returns-clause-uses : goal.returns-clause-uses
returns-clause-uses c =
    c.in_ok-set.ensures.uses
    ∙ ap (λ (u : Use). with_use c.args.pid c.args.number (record u { wrote = true }) (uses_in c.args.self.now)) c.use_of-used.ensures
