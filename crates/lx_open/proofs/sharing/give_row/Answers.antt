use Rattle.lx_open.proofs.Copying.{counts_given, has_row, row_back, given}
use Rattle.lx_open.proofs.sharing.give_row.Goals as goal

pub returns-in-Ok-clause-ok : goal.returns-in-Ok-clause-ok
returns-in-Ok-clause-ok c =
    given c.args.map.now c.set_row.new.self c.args.parent c.args.child c.args.row c.requires.other c.requires.none c.requires.given c.in_ok-set_row.ensures.ok

pub returns-in-Ok-clause-counts : goal.returns-in-Ok-clause-counts
returns-in-Ok-clause-counts c =
    counts_given c.args.counts.now c.count_process.new.counts c.args.map.now c.set_row.new.self c.args.child c.args.row c.requires.none c.in_ok-set_row.ensures.ok
    (c.in-Ok.ensures.ok c.args.row (has_row c.args.map.now c.set_row.new.self c.args.child c.args.row c.in_ok-set_row.ensures.ok))

pub returns-in-Err-clause-same : goal.returns-in-Err-clause-same
returns-in-Err-clause-same c =
    row_back c.args.map.now c.set_row.new.self c.drop_row.new.self c.args.child c.args.row c.requires.none c.in_ok-set_row.ensures.ok c.drop_row.ensures
