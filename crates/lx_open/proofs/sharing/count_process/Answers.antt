use Rattle.lx_open.proofs.Copying.{counts_none, counts_process}
use Rattle.lx_open.proofs.sharing.count_process.Goals as goal

pub returns-in-None-clause-ok : goal.returns-in-None-clause-ok
returns-in-None-clause-ok c = λ row has. counts_none c.args.counts.now c.args.map.now c.args.pid row c.in-None.ensures has

pub returns-in_ok-count_row-in-Some-clause-ok : goal.returns-in_ok-count_row-in-Some-clause-ok
returns-in_ok-count_row-in-Some-clause-ok c = λ row has.
    counts_process c.args.counts.now c.count_row.new.counts c.args.map.now c.args.pid c.end.result c.in-Some.row.now row c.in-Some.ensures has c.end.ensures.within c.end.ensures.none c.in_ok-count_row-in-Some.ensures.ok
