use Rattle.std.proofs.Common.{[], ◌∷◌, ◌++◌, sym, subst}
use Rattle.sweep_rows.specs.Calls.{AreCalls}
use Rattle.sweep_rows.proofs.Numbers.{entry_more}
use Rattle.sweep_rows.proofs.calls.Calls.add.Goals as goal

pub returns : goal.returns
returns c = λ past h.
    subst (λ item. AreCalls c.push.new.self (past ++ item ∷ [])) (sym c.in-Enter.is)
    (entry_more c.args.self.now c.push.new.self c.in-Enter.pid c.in-Enter.call c.in_ok-push.ensures past h)
