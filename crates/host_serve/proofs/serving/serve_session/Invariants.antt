use Rattle.std.proofs.Common.{◌≡◌, ◌<◌}
use Rattle.std.specs.Prelude.{vec_len}
use Rattle.host_wire.specs.Streams.{nothing_fed}
use Rattle.host_serve.specs.Keeping.{IsOut}
use Rattle.host_serve.specs.Serving.{IsDue, Serves}
use Rattle.host_serve.proofs.serving.serve_session.Given as goal

abbrev pub invariant-loop-number : goal.invariant-loop-number
invariant-loop-number g l = record {
  serves : Serves l.fn.most g.S.Session.boots g.S.Session.answers (g.R.Ahead.input l.fn.reader) (g.R.Ahead.input l.reader) (g.W.Sink.contents l.fn.writer) (g.W.Sink.contents l.writer) (g.W.Sink.puts l.fn.writer) (g.W.Sink.puts l.writer) l.phase l.number;
  due : IsDue g.S.Session.ready g.S.Session.given l.phase l.number;
  fresh : l.feed ≡ nothing_fed;
  room : 0 < vec_len l.room;
  out : IsOut (g.W.Outlet.kept l.writer) (g.R.Ahead.ahead l.reader);
}
