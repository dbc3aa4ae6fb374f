use Rattle.lx_boot.proofs.Ordered.{bad_tells, under_tells}
use Rattle.lx_boot.proofs.boots.has_bad_path.Goals as goal

pub returns-then-has_plain_fault : goal.returns-then-has_plain_fault
returns-then-has_plain_fault c = bad_tells c.args.files.now c.has_plain_fault.result c.has_plain_fault.ensures c.if-has_plain_fault.true

pub returns-else-has_plain_fault : goal.returns-else-has_plain_fault
returns-else-has_plain_fault c = under_tells c.args.files.now c.has_plain_fault.result c.has_under.result c.has_plain_fault.ensures c.if-has_plain_fault.false c.has_under.ensures
