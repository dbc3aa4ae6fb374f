use Rattle.sweep_rows.proofs.Holding.{uses_first}
use Rattle.sweep_rows.proofs.descriptors.Descriptors.new.Goals as goal

pub returns-clause-uses : goal.returns-clause-uses
returns-clause-uses c = uses_first (record { alloc = c.args.alloc; at = 0; processes = c.new.result }) c.new.ensures
