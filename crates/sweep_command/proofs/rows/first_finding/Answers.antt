use Rattle.std.proofs.Common.{◌≡◌, ◌+◌, suc, length, refl, arith}
use Rattle.std.proofs.lemmas.Option.{slice_get_read}
use Rattle.sweep_command.proofs.rows.first_finding.Goals as goal

pub returns-then-new : goal.returns-then-new
returns-then-new c =
    let rows = c.args.rows.now in
    let count = c.loop-count.count in
    let row = c.index-rows-count.result in
    let next : count + 1 ≡ suc count = omega arith in
    (count, row, next, slice_get_read rows (length rows) count row refl c.loop-count-test.true c.index-rows-count.is, c.in_ok-new.ensures c.if-new.true)
