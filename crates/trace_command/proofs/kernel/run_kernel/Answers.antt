use Rattle.std.proofs.Common.{subst, sym}
use Rattle.trace_run.specs.Writers.{writer_of}
use Rattle.trace_command.specs.Tracing.{Traces}
use Rattle.trace_command.proofs.kernel.run_kernel.Goals as goal

pub returns-in-There-clause-made : goal.returns-in-There-clause-made
returns-in-There-clause-made g c =
    subst
    (λ k. Traces g.P.Stdout.Read.remaining g.P.Stdin.Write.contents c.args.options c.args.script k
    c.args.behind.now.kept.asked.events c.args.behind.now.kept.known.events c.run_counting-ended.result.0
    (writer_of g.W.Sink.contents g.W.Sink.puts g.W.Sink.broken c.args.lines.now)
    (writer_of g.W.Sink.contents g.W.Sink.puts g.W.Sink.broken c.run_counting-ended.new.writer))
    (sym c.in-There.is)
    (c.run_counting-ended.new.link, c.run_counting-ended.ensures.counting.run)
