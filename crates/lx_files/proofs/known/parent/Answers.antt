use Rattle.std.proofs.Common.{rules, arith, ◌∙◌}
use Rattle.lx_files.proofs.Paths.{popped_slash, popped_other, no_parent}
use Rattle.lx_files.proofs.known.parent.Goals as goal

pub returns-then-byte-eq47-clause-parent : goal.returns-then-byte-eq47-clause-parent
returns-then-byte-eq47-clause-parent c = popped_slash c.loop-byte.left.now c.in-Some.before.now c.in-Some.byte.now c.in-Some.ensures.cases.0 (search rules) ∙ c.loop-byte.invariant.0

pub loop-byte-preserved : goal.loop-byte-preserved
loop-byte-preserved c =
    let cases = c.in-Some.ensures.cases in
    let h = c.loop-byte.invariant in
    (popped_other c.loop-byte.left.now c.in-Some.before.now c.in-Some.byte.now cases.0 (search rules) ∙ h.0, omega (arith, cases.1, h.1))

pub returns-clause-parent : goal.returns-clause-parent
returns-clause-parent c = no_parent c.loop-byte.left.now (search rules) ∙ c.loop-byte.invariant.0
