use Rattle.std.proofs.Common.{◌+◌, ◌-◌, arith, sym}
use Rattle.elf_frames.proofs.Runs.{unread, ended, one_more, all_run}
use Rattle.elf_frames.proofs.rows.run_from.Goals as goal

pub returns-then-ends : goal.returns-then-ends
returns-then-ends c =
    ended c.args.cie c.args.address c.args.bytes.now (c.args.count - c.loop.counter) (c.args.count - (c.loop.counter + 1)) c.loop.run _ (omega arith) (sym c.if-ends.ensures) c.loop.invariant

pub returns-then-not-step : goal.returns-then-not-step
returns-then-not-step c =
    unread c.args.cie c.args.address c.args.bytes.now (c.args.count - c.loop.counter) (c.args.count - (c.loop.counter + 1)) c.loop.run _ (omega arith) (sym c.if-ends.ensures) c.if-not-step.ensures c.loop.invariant

pub loop-preserved : goal.loop-preserved
loop-preserved c =
    one_more c.args.cie c.args.address c.args.bytes.now (c.args.count - c.loop.counter) (c.args.count - (c.loop.counter + 1)) c.loop.run c.step.new.run _ (omega arith) (sym c.if-ends.ensures) c.if-not-step.ensures c.loop.invariant

pub returns : goal.returns
returns c = all_run c.args.cie c.args.address c.args.bytes.now (c.args.count - c.loop.counter) c.loop.run _ (omega arith) c.loop.invariant
