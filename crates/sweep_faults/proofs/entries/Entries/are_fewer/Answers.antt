use Rattle.std.proofs.Common.{arith}
use Rattle.std.proofs.lemmas.Bool.Decides.{nat_tests}
use Rattle.sweep_faults.proofs.Fewer.{fewer_is, never_fewer}
use Rattle.sweep_faults.proofs.entries.Entries.are_fewer.Goals as goal

pub returns-then-fault-eq0 : goal.returns-then-fault-eq0
returns-then-fault-eq0 c = λ log h.
    let none = c.if-fault-eq0.true in
    never_fewer c.args.fault log (grind (arith, nat_tests, none))

pub returns : goal.returns
returns c = λ log h.
    fewer_is c.args.fault c.args.self.now log h c.has_others.result _ (omega arith) c.has_others.ensures c.if-fault-eq0.false
