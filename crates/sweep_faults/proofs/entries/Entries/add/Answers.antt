use Rattle.std.proofs.Common.{[], ◌∷◌, ◌++◌, sym, subst}
use Rattle.sweep_faults.specs.Entries.{AreEntries}
use Rattle.sweep_faults.proofs.Fewer.{entries_entry, entries_other}
use Rattle.sweep_faults.proofs.entries.Entries.add.Goals as goal

pub returns-in_default : goal.returns-in_default
returns-in_default c = entries_other c.args.item.now c.in_default.not-Enter c.args.self.now

pub returns : goal.returns
returns c = λ past h.
    subst (λ item. AreEntries c.count.new.self (past ++ item ∷ [])) (sym c.in-Enter.is)
    (entries_entry c.args.self.now c.count.new.self c.in-Enter.pid c.in-Enter.call c.in_ok-count.ensures.counts c.in_ok-count.ensures.before
    c.in_ok-count.ensures.above past h)
