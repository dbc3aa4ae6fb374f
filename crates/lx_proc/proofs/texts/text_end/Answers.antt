use Rattle.std.proofs.Common.{arith, ◌∙◌}
use Rattle.lx_proc.specs.Texts.{any_length}
use Rattle.lx_proc.proofs.Looking.{text_not_readable, text_readable, text_never_ends}
use Rattle.lx_proc.proofs.Pointers.{first_passed, one_passed, texts_passed}
use Rattle.lx_proc.proofs.texts.text_end.Goals as goal

pub returns-in_default-clause-text : goal.returns-in_default-clause-text
returns-in_default-clause-text c =
    text_not_readable c.args.memory.now any_length c.loop.counter c.loop.at _ c.in_default.field-0 (omega arith) (rw c.loop.invariant.kept at c.in_default.ensures.fault)
    (first_passed c.args.memory.now c.args.address c.loop.counter c.loop.at (omega arith) c.loop.invariant.passed)

pub returns-then-byte-eq0-clause-text : goal.returns-then-byte-eq0-clause-text
returns-then-byte-eq0-clause-text c =
    text_readable c.args.memory.now any_length c.loop.counter c.loop.at _ (omega arith) (rw c.loop.invariant.kept at c.in-Ok.ensures.ok)
    (rw (c.in-Ok.ensures.value, c.loop.invariant.kept) at c.if-byte-eq0.true)
    (first_passed c.args.memory.now c.args.address c.loop.counter c.loop.at (omega arith) c.loop.invariant.passed)

pub returns-then-byte-eq0-clause-passed : goal.returns-then-byte-eq0-clause-passed
returns-then-byte-eq0-clause-passed c =
    texts_passed c.args.memory.now c.args.address c.loop.counter c.loop.at (omega arith) (omega arith) c.loop.invariant.place (rw c.loop.invariant.kept at c.in-Ok.ensures.ok)
    (rw (c.in-Ok.ensures.value, c.loop.invariant.kept) at c.if-byte-eq0.true) c.loop.invariant.passed

pub loop-preserved : goal.loop-preserved
loop-preserved c = record {
  kept = c.in-Ok.ensures.unchanged ∙ c.loop.invariant.kept;
  place = omega (arith, c.loop.invariant.place);
  passed = one_passed c.args.memory.now c.args.address c.loop.counter c.loop.at (omega arith) c.loop.invariant.place (rw c.loop.invariant.kept at c.in-Ok.ensures.ok)
      (rw (c.in-Ok.ensures.value, c.loop.invariant.kept) at c.if-byte-eq0.false) c.loop.invariant.passed;
}

pub returns-clause-text : goal.returns-clause-text
returns-clause-text c =
    text_never_ends c.args.memory.now any_length c.loop.counter c.loop.at _ (omega arith)
    (first_passed c.args.memory.now c.args.address c.loop.counter c.loop.at (omega arith) c.loop.invariant.passed)
