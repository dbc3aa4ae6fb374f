use Rattle.std.specs.Prelude.{⊤}
use Rattle.std.proofs.Common.{Result, ap, sym, subst}
use Rattle.lx_abi.specs.Scripts.{choice_of}
use Rattle.tr_core.specs.Settings.{first_pen, options_by}
use Rattle.tr_core.specs.States.{State, new_state, taken_of}
use Rattle.tr_core.specs.Tracers.{state_of}
use Rattle.trace_run.specs.Runs.{calls_of, Runs}
use Rattle.trace_run.specs.Writers.{writer_of}
use Rattle.trace_run.specs.declared.running.RunFault.{RunFault}
use Rattle.trace_run.proofs.running.run_counting.Goals as goal

pub run_tracer-ran-requires : goal.run_tracer-ran-requires
unfolding taken_of
run_tracer-ran-requires g c = ap taken_of c.new-tracer.ensures

pub returns-clause-counting : goal.returns-clause-counting
returns-clause-counting g c =
    let first : State =
    new_state (options_by c.args.options) (choice_of c.args.script) (first_pen c.args.options) in
    let last : State = state_of c.run_tracer-ran.new.tracer in
    let runs : State → Result ⊤ RunFault → Type 0 = λ s ran.
    Runs (calls_of g.L.Link.answers g.L.Link.given g.L.Link.broken)
    (record { link = c.args.link.now; writer = writer_of g.W.Sink.contents g.W.Sink.puts g.W.Sink.broken c.args.writer.now; state = s }) ran
    (record { link = c.run_tracer-ran.new.link; writer = writer_of g.W.Sink.contents g.W.Sink.puts g.W.Sink.broken c.run_tracer-ran.new.writer; state = last }) in
    record {
      run = record {
        state = last;
        runs =
            subst (λ ran. runs first ran) (sym c.end_by.ensures.ran)
            (subst (λ s. runs s c.run_tracer-ran.result) c.new-tracer.ensures c.run_tracer-ran.ensures.run);
        ends = c.end_by.ensures.ends last (sym c.into_parts-outcome.ensures.outcome);
      };
      counted = c.into_parts-outcome.ensures.counts;
    }
