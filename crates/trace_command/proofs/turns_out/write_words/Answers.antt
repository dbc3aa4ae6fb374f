use Rattle.std.proofs.Common.{ap}
use Rattle.front_end.specs.Streams.{opened_contents}
use Rattle.trace_command.proofs.Turned.{turns_written}
use Rattle.trace_command.proofs.turns_out.write_words.Goals as goal

pub returns : goal.returns
returns g c =
    turns_written (opened_contents g.R.File.Write.contents) c.args.path.now c.in_ok-file.file.file
    c.in_ok-writer.writer.inner.file c.write_events.new.writer.inner.file c.in_ok-writer.writer.buf.items
    c.write_events.new.writer.buf.items c.args.events.now c.write_events.result c.in_ok-file.ensures.opened
    (ap (λ f. f.file) c.in_ok-writer.ensures.inner) c.in_ok-writer.ensures.empty c.write_events.ensures.text
    c.write_events.ensures.whole c.write_events.ensures.numbers
