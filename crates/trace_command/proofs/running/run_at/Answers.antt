use Rattle.std.proofs.Common.{subst, sym}
use Rattle.front_end.specs.Streams.{opened_contents}
use Rattle.trace_run.specs.Writers.{writer_of}
use Rattle.trace_command.specs.Outlets.{Closes, IsNew, IsOpenAt}
use Rattle.trace_command.specs.Tracing.{Traces, outputs}
use Rattle.trace_command.proofs.Outlets.{written_at}
use Rattle.trace_command.proofs.running.run_at.Goals as goal

pub returns-in-Ok-made-clause-written : goal.returns-in-Ok-made-clause-written
returns-in-Ok-made-clause-written g c =
    let held = opened_contents g.R.File.Write.contents in
    let out = writer_of g.O.Sink.contents g.O.Sink.puts g.O.Sink.broken in
    let err = writer_of g.E.Sink.contents g.E.Sink.puts g.E.Sink.broken in
    let outlet = c.run_kernel-made.new.lines in
    written_at held
    (Traces g.P.Stdout.Read.remaining g.P.Stdin.Write.contents c.args.options c.args.script c.args.kernel
    c.args.behind.now.kept.asked.events c.run_kernel-made.new.behind.kept.known.events)
    c.in-Ok-made.ended c.close.result
    (outputs (out c.args.outlet.now.out) (err c.args.outlet.now.err)) (outputs (out outlet.out) (err outlet.err))
    c.args.place c.replace.new.dest outlet.trace
    (subst (λ to. IsOpenAt (IsNew held) c.args.place to) (sym c.replace.ensures.after) c.in-Ok.ensures.open)
    c.run_kernel-made.ensures.beside c.in-Ok-made.ensures.made
    (subst (λ to. Closes held to c.in-Ok-made.ended c.close.result) c.replace-trace.ensures.value c.close.ensures)
