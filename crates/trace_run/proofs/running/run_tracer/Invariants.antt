use Rattle.std.proofs.Common.{◌≡◌, ◌^◌, ◌-◌}
use Rattle.trace_run.specs.Runs.{calls_of}
use Rattle.trace_run.specs.Writers.{writer_of}
use Rattle.trace_run.proofs.Talks.{Going}
use Rattle.trace_run.proofs.running.run_tracer.Given as goal

abbrev pub invariant-loop-next : goal.invariant-loop-next
invariant-loop-next g l =
    Going (calls_of g.L.Link.answers g.L.Link.given g.L.Link.broken) g.L.Link.given
    (record { link = l.fn.link; writer = writer_of g.W.Sink.contents g.W.Sink.puts g.W.Sink.broken l.fn.writer; state = g.T.Tracing.state l.fn.tracer })
    l.reply
    (record { link = l.link; writer = writer_of g.W.Sink.contents g.W.Sink.puts g.W.Sink.broken l.writer; state = g.T.Tracing.state l.tracer })
    × (g.W.TraceSink.beside l.writer ≡ g.W.TraceSink.beside l.fn.writer)

abbrev pub decreases-loop-next : goal.decreases-loop-next
decreases-loop-next g l = 2 ^ 40 - g.L.Link.given l.link
