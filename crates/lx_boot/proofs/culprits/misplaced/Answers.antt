use Rattle.std.proofs.Common.{◌∙◌, sym, ap}
use Rattle.lx_boot.specs.Culprits.{misplaced_at}
use Rattle.lx_boot.proofs.Seeking.{placed_more, misplaced_here, all_placed}
use Rattle.lx_boot.proofs.culprits.misplaced.Goals as goal

pub returns-in-Some : goal.returns-in-Some
returns-in-Some c =
    misplaced_here c.args.files.now c.loop-at.at c.index-files-at.result _ c.in-Some.found c.loop-at-test.true c.index-files-at.is
    (sym (c.in-Some.ensures ∙ ap (misplaced_at c.args.files.now c.loop-at.at) c.as_slice.ensures)) c.loop-at.invariant

pub loop-at-preserved : goal.loop-at-preserved
loop-at-preserved c =
    placed_more c.args.files.now c.loop-at.at c.index-files-at.result _ c.loop-at-test.true c.index-files-at.is
    (sym (c.in_default.ensures ∙ ap (misplaced_at c.args.files.now c.loop-at.at) c.as_slice.ensures)) c.loop-at.invariant

pub returns : goal.returns
returns c = all_placed c.args.files.now c.loop-at.at _ c.loop-at-test.false c.loop-at.invariant
