use Rattle.std.proofs.Common.{◌⊎◌, IsSome, codes, inl, inr}
use Rattle.front_end.specs.Streams.{opened_contents}
use Rattle.trace_run.specs.Writers.{writer_of}
use Rattle.trace_command.specs.Noting.{NotesOf, WritesEvents, WritesNoted}
use Rattle.trace_command.specs.Tracing.{IsFile, RunsNoting, Traces, wanting, wants}
use Rattle.trace_command.proofs.Lacking.{lacks_at, lacks_more}
use Rattle.trace_command.proofs.Noted.{events_written, leaves_more, on_ok_more, plan_notes, settled_well}
use Rattle.trace_command.proofs.Reaching.{runs_asked, writes_to_more}
use Rattle.trace_command.proofs.tracing.trace_plan.Goals as goal

pub returns-in-Err-run_at : goal.returns-in-Err-run_at
returns-in-Err-run_at g c =
    let wanted = wanting c.args.matches.now c.args.options in
    let host = wants wanted (codes "host") in
    let path = wants wanted (codes "turns-out") in
    let workers = c.args.options.workers in
    let file = IsFile c.of-place.result in
    let files = IsSome path ⊎ file in
    let u = c.in-Err-run_at.ensures.unmade in (
      c.of-place.result,
      (
        c.of-place.ensures,
        inl (
          lacks_more host workers file files inr _
              (lacks_at g.R.Started.Stdout.Read.remaining g.R.Started.Stdin.Write.contents host workers
              c.args.plan.boot c.args.options.limit c.args.plan.turns.items c.in-Ok-booted_kernel.kernel file
              c.in-Ok-booted_kernel.ensures.takes _ u.0),
          u.1,
        ),
      ),
    )

pub returns : goal.returns
returns g c =
    let wanted = wanting c.args.matches.now c.args.options in
    let held = opened_contents g.R.File.Write.contents in
    let remaining = g.R.Started.Stdout.Read.remaining in
    let contents = g.R.Started.Stdin.Write.contents in
    let host = wants wanted (codes "host") in
    let path = wants wanted (codes "turns-out") in
    let workers = c.args.options.workers in
    let place = c.of-place.result in
    let kernel = c.in-Ok-booted_kernel.kernel in
    let ended = c.in-Ok-run_at.ended in
    let old = c.args.behind.now.kept in
    let kept = c.run_at.new.behind.kept in
    let noted = kept.known.events in
    let made = c.settle-made.result in (
      place,
      (
        c.of-place.ensures,
        inr (record {
          made = made;
          noted = noted;
          traced = writer_of g.O.Sink.contents g.O.Sink.puts g.O.Sink.broken c.run_at.new.outlet.out;
          run =
              runs_asked g.row.R-Started.Denot g.row.R-Started-Stderr.Denot held remaining contents wanted c.args.plan
              old.asked.events noted place made _ _ c.requires.asked (
                ended,
                (
                  writer_of g.E.Sink.contents g.E.Sink.puts g.E.Sink.broken c.run_at.new.outlet.err,
                  (
                    writes_to_more held
                        (Traces remaining contents c.args.plan.options c.args.plan.script kernel old.asked.events noted)
                        (RunsNoting g.row.R-Started.Denot g.row.R-Started-Stderr.Denot remaining contents wanted
                        c.args.plan old.asked.events noted)
                        ended place _ _ (λ ended old new h. (kernel, (c.in-Ok-booted_kernel.ensures.takes, h)))
                        c.in-Ok-run_at.ensures.written,
                    c.settle-made.ensures,
                  ),
                ),
              );
          leaves =
              leaves_more wanted.words (WritesNoted held path kept) (WritesEvents held wanted c.args.plan noted) made _
              _ _ (λ is.
              events_written held wanted c.args.plan old kept c.requires c.in-Ok-run_at.ensures.kept
              (settled_well place ended made _ _
              (NotesOf host workers c.args.options.limit c.args.plan old.asked.events noted) c.settle-made.ensures is
              (on_ok_more ended
              (plan_notes remaining contents host workers c.args.options.limit c.args.plan kernel old.asked.events noted
              c.in-Ok-booted_kernel.ensures.takes)
              c.in-Ok-run_at.ensures.notes)))
              c.leave.ensures;
        }),
      ),
    )
