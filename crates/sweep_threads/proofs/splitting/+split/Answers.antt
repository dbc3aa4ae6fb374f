use Rattle.std.proofs.Common.{rules, ◌≡◌, List, ◌++◌, sym, subst}
use denote.Param.Send.{IsSend, sendable, param_send}
use Rattle.std.proofs.alloc.Global.TheSendSync as heap
use Rattle.sweep_rows.proofs.verdicts.Reached.TheSendSync as reached
use Rattle.sweep_rows.proofs.wanted.Case.TheSendSync as case
use Rattle.sweep_rows.proofs.setup.Setup.TheSendSync as setup
use Rattle.sweep_runs.specs.Rows.{AreRows}
use Rattle.sweep_rows.specs.declared.wanted.Case.{Case}
use Rattle.sweep_rows.specs.declared.row.Row.{Row}
use Rattle.sweep_threads.proofs.Joining.{rows_are_joined}
use Rattle.sweep_threads.proofs.splitting.+split.Goals as goal
use Rattle.sweep_threads.proofs.splitting.+split.Lts-run_split as lts

pub join-front-requires-send-F : goal.join-front-requires-send-F
join-front-requires-send-F g t c κs within =
    let sent : IsSend (lts.arg-3-1 g.row.R g.R.laws g.R.Threads-dict κs) = search (sendable, heap.the_sync, reached.the_sync, setup.the_sync, case.the_sync) depth 20 in
    param_send 1 (lts.arg-3-1 g.row.R g.R.laws g.R.Threads-dict κs) sent

pub returns : goal.returns
returns g t c =
    let s = c.args.setup.now in
    let r = c.args.reference.now in
    let first = c.split_at.result.0.now in
    let others = c.split_at.result.1.now in
    let rows = c.in_ok-rows.rows.items in
    let more = c.in_ok-more.more.items in
    let front : AreRows s r first rows = search rules in
    let back : AreRows s r others more = search rules in
    let items : c.append.new.self.items ≡ rows ++ more = search rules in
    subst (λ (cases : List Case). AreRows s r cases c.append.new.self.items) (sym c.split_at.ensures.by_index.0)
    (subst (λ (all : List Row). AreRows s r (first ++ others) all) (sym items)
    (rows_are_joined s r first others rows more front back))
