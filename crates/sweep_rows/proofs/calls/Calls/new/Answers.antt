use Rattle.sweep_rows.proofs.Numbers.{none_made}
use Rattle.sweep_rows.proofs.calls.Calls.new.Goals as goal

pub returns : goal.returns
returns c = none_made (record { alloc = c.args.alloc; made = c.new.result }) c.new.ensures
