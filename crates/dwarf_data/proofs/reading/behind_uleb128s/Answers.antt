use Rattle.dwarf_data.proofs.Numbers.{one_number, bad_number, no_number}
use Rattle.dwarf_data.proofs.reading.behind_uleb128s.Goals as goal

pub returns-in_default : goal.returns-in_default
returns-in_default c = bad_number c.args.count c.loop.counter c.loop.left.now _ c.loop-test.true c.in_default.ensures c.loop.invariant

pub loop-preserved : goal.loop-preserved
loop-preserved c = one_number c.args.count c.loop.counter _ c.loop.left.now c.in-Some.rest.now _ c.loop-test.true c.in-Some.ensures c.loop.invariant

pub returns : goal.returns
returns c = no_number c.args.count c.loop.counter c.loop.left.now _ c.loop-test.false c.loop.invariant
