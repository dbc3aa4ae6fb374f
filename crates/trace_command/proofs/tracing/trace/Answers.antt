use Rattle.std.proofs.Common.{inr, sym}
use Rattle.front_end.specs.Streams.{opened_contents}
use Rattle.trace_run.specs.Writers.{writer_of}
use Rattle.trace_command.specs.Noting.{WritesEvents}
use Rattle.trace_command.specs.Tracing.{Runs, TracesPlan, outputs, wanting}
use Rattle.trace_command.specs.Writers.{broken_of, contents_of, puts_of}
use Rattle.trace_command.proofs.Lacking.{over_both}
use Rattle.trace_command.proofs.tracing.trace.Goals as goal

pub returns : goal.returns
returns g c =
    let options = c.in-Ok.prepared.options in
    let plan = c.in-Ok.prepared.plan in
    let wanted = wanting c.args.matches.now options in
    let held = opened_contents g.R.File.Write.contents in
    let ended = c.trace_plan-ended.result in
    let out = writer_of (λ l. contents_of g.O.Write.contents l) (λ l. puts_of l) (λ l. broken_of l)
    c.trace_plan-ended.new.outlet.out in
    let err = writer_of (λ l. contents_of g.E.Write.contents l) (λ l. puts_of l) (λ l. broken_of l)
    c.trace_plan-ended.new.outlet.err in
    let run =
    over_both
    (λ x y. TracesPlan held
    (Runs g.row.R-Started.Denot g.row.R-Started-Stderr.Denot g.R.Started.Stdout.Read.remaining
    g.R.Started.Stdin.Write.contents wanted plan)
    (WritesEvents held wanted plan) wanted ended (outputs x y) (outputs out err))
    c.new.ensures c.new-2.ensures c.trace_plan-ended.ensures in
    inr (
      options,
      (
        c.in-Ok.ensures.options,
        (
          plan,
          (
            c.in-Ok.ensures.plan,
            (
              ended,
              (
                g.E.Write.contents c.prepare.new.err,
                (outputs out err, (sym c.into_inner.ensures, (c.explain-status.ensures, run))),
              ),
            ),
          ),
        ),
      ),
    )
