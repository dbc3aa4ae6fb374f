use Rattle.std.proofs.Common.{◌≡◌, ◌+◌, ◌-◌, arith}
use Rattle.std.proofs.lemmas.Bool.Decides.{nat_tests}
use Rattle.lx_open.proofs.Copying.{counts_end, counts_step, counts_back}
use Rattle.lx_open.proofs.sharing.+count_row.Goals as goal

pub returns-then-end-eq0-clause-ok : goal.returns-then-end-eq0-clause-ok
returns-then-end-eq0-clause-ok t c =
    let zero : c.args.end ≡ 0 = grind (arith, nat_tests, c.if-end-eq0.true) in
    counts_end c.args.counts.now c.args.row.now c.args.end zero

pub returns-in-Ok-clause-ok : goal.returns-in-Ok-clause-ok
returns-in-Ok-clause-ok t c =
    let some : c.args.end ≡ (c.args.end - 1) + 1 = grind (arith, nat_tests, c.if-end-eq0.false) in
    counts_step c.args.counts.now c.add.new.counts c.count_row.new.counts c.args.row.now (c.args.end - 1) c.args.end c.get-slot.result some c.get-slot.ensures c.in_ok-add.ensures.ok c.in-Ok.ensures.ok

pub returns-in-Err-clause-same : goal.returns-in-Err-clause-same
returns-in-Err-clause-same t c =
    counts_back c.args.counts.now c.add.new.counts c.count_row.new.counts c.forget.new.counts c.get-slot.result c.in_ok-add.ensures.ok c.in-Err.ensures.same c.forget.ensures
