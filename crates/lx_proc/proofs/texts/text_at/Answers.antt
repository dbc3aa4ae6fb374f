use Rattle.std.proofs.Common.{◌∙◌, arith}
use Rattle.lx_proc.proofs.Reading.{text_unreadable, text_ended, text_goes_on, text_too_long}
use Rattle.lx_proc.proofs.texts.text_at.Goals as goal

pub returns-in_default-clause-text : goal.returns-in_default-clause-text
returns-in_default-clause-text c =
    text_unreadable c.args.memory.now c.args.limit c.loop.counter c.loop.at c.loop.text _ c.in_default.field-0 (omega arith) (rw c.loop.invariant.kept at c.in_default.ensures.fault) c.loop.invariant.so_far

pub returns-then-byte-eq0-clause-text : goal.returns-then-byte-eq0-clause-text
returns-then-byte-eq0-clause-text c =
    text_ended c.args.memory.now c.args.limit c.loop.counter c.loop.at c.loop.text _ (omega arith) (rw c.loop.invariant.kept at c.in-Ok.ensures.ok)
    (rw (c.in-Ok.ensures.value, c.loop.invariant.kept) at c.if-byte-eq0.true) c.loop.invariant.so_far

pub loop-preserved : goal.loop-preserved
loop-preserved c =
    let e = text_goes_on c.args.memory.now c.args.limit c.loop.counter c.loop.at c.loop.text _ (omega arith) (rw c.loop.invariant.kept at c.in-Ok.ensures.ok)
    (rw (c.in-Ok.ensures.value, c.loop.invariant.kept) at c.if-byte-eq0.false) c.loop.invariant.so_far in
    record {
      kept = c.in-Ok.ensures.unchanged ∙ c.loop.invariant.kept;
      so_far = cc (e, c.in_ok-extend.ensures.ok, c.in-Ok.ensures.value, c.loop.invariant.kept);
    }

pub returns-clause-text : goal.returns-clause-text
returns-clause-text c = text_too_long c.args.memory.now c.args.limit c.loop.counter c.loop.at c.loop.text _ (omega arith) c.loop.invariant.so_far
