use Rattle.std.proofs.Common.{arith}
use Rattle.rv_asm.proofs.LineSteps.{emit_next, emit_fault, emit_end}
use Rattle.rv_asm.proofs.listing.emit.Goals as goal

pub loop-i-preserved : goal.loop-i-preserved
loop-i-preserved c = emit_next c.args.labels.now c.args.lines.now c.loop-i.i _ c.loop-i.out.items _ _ c.loop-i-test.true c.in-Ok.ensures.ok c.loop-i.invariant

pub returns-in-Err-clause-err : goal.returns-in-Err-clause-err
returns-in-Err-clause-err c = λ other. emit_fault c.args.labels.now c.args.lines.now c.loop-i.i _ c.loop-i.out.items _ c.in-Err.kind c.loop-i-test.true (c.in-Err.ensures.err other) c.loop-i.invariant

pub returns-clause-ok : goal.returns-clause-ok
returns-clause-ok c = emit_end c.args.labels.now c.args.lines.now c.loop-i.i _ c.loop-i.out.items _ (omega arith) c.loop-i.invariant
