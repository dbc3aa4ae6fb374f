use Rattle.std.proofs.Common.{◌≡◌, length, ap, ◌∙◌, arith}
use Rattle.lx_boot.specs.Limits.{new_directories}
use Rattle.lx_boot.proofs.Nodes.{too_many, one_file_less, one_file_too_many, all_counted}
use Rattle.lx_boot.proofs.limits.nodes_fit.Goals as goal

pub returns-then-files-ge-MOST_NODES : goal.returns-then-files-ge-MOST_NODES
returns-then-files-ge-MOST_NODES c = too_many c.args.files.now c.if-files-ge-MOST_NODES.true

pub returns-in-None : goal.returns-in-None
returns-in-None c =
    one_file_too_many c.args.files.now c.loop-file.uncounted.now c.in-Some.rest.now c.in-Some.file.now c.loop-file.left c.new_directories-new.result c.in-Some.ensures.cases.0
    (c.new_directories-new.ensures.counted ∙ ap (λ p. new_directories c.in-Some.rest.now p (length p)) c.as_slice.ensures) c.loop-file.invariant
    (let h = c.in-None.ensures in omega (arith, h))

pub loop-file-preserved : goal.loop-file-preserved
loop-file-preserved c =
    let e = c.in-Some-checked_sub.ensures in
    one_file_less c.args.files.now c.loop-file.uncounted.now c.in-Some.rest.now c.in-Some.file.now c.loop-file.left c.in-Some-checked_sub.less c.new_directories-new.result c.in-Some.ensures.cases.0
    (c.new_directories-new.ensures.counted ∙ ap (λ p. new_directories c.in-Some.rest.now p (length p)) c.as_slice.ensures) c.loop-file.invariant
    (omega (arith, e.0, e.1))

pub returns : goal.returns
returns c =
    let h = c.in_default.ensures in
    let none : length c.loop-file.uncounted.now ≡ 0 = grind arith in
    all_counted c.args.files.now c.loop-file.uncounted.now c.loop-file.left none c.loop-file.invariant
