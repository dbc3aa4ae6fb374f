use Rattle.std.proofs.Common.{sym, arith}
use Rattle.lx_boot.proofs.Seeking.{large_here, no_room, room_left, none_large}
use Rattle.lx_boot.proofs.culprits.oversized.Goals as goal

pub returns-in-Some : goal.returns-in-Some
returns-in-Some c =
    large_here c.loop-at.room c.args.files.now c.loop-at.at c.index-files-at.result _ c.in-Some.found c.loop-at-test.true c.index-files-at.is
    (sym c.in-Some.ensures) c.loop-at.invariant

pub returns-in-None : goal.returns-in-None
returns-in-None c =
    let h = c.in-None.ensures in
    let size = c.len.ensures in
    no_room c.loop-at.room c.args.files.now c.loop-at.at c.index-files-at.result _ c.loop-at-test.true c.index-files-at.is
    (sym c.in_default.ensures) (omega (arith, h, size)) c.loop-at.invariant

pub loop-at-preserved : goal.loop-at-preserved
loop-at-preserved c =
    let e = c.in-Some-checked_sub.ensures in
    let size = c.len.ensures in
    room_left c.loop-at.room c.in-Some-checked_sub.less c.args.files.now c.loop-at.at c.index-files-at.result _ c.loop-at-test.true c.index-files-at.is
    (sym c.in_default.ensures) (omega (arith, e.0, e.1, size)) (omega (arith, e.0, e.1, size)) c.loop-at.invariant

pub returns : goal.returns
returns c = none_large c.loop-at.room c.args.files.now c.loop-at.at _ c.loop-at-test.false c.loop-at.invariant
