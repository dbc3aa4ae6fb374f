use Rattle.sweep_rows.specs.declared.descriptors.Descriptors.{Descriptors}
use Rattle.sweep_rows.proofs.Holding.{uses_inherited}
use Rattle.sweep_rows.proofs.descriptors.Descriptors.inherit.Goals as goal

pub returns-clause-uses : goal.returns-clause-uses
returns-clause-uses c =
    let new : Descriptors = record { alloc = c.args.self.now.alloc; at = c.args.self.now.at; processes = c.insert.new.self } in
    uses_inherited c.args.self.now new c.args.parent c.args.child c.in_ok-own.own c.in_ok-own.ensures c.in_ok-insert.ensures.ok
