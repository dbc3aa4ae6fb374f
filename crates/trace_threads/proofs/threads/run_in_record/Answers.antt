use Rattle.std.proofs.Common.{subst}
use Rattle.std.specs.Prelude.{IfOk, IfErr}
use Rattle.lx_abi.specs.declared.boot.Boot.{Boot}
use Rattle.tr_core.specs.declared.settings.Options.{Options}
use Rattle.trace_run.specs.BootedRuns.{following}
use Rattle.trace_threads.specs.ThreadRuns.{Faults, IsNotedRun, IsTraced}
use Rattle.trace_threads.proofs.Journalled.{finished, limits_are_one, on_ok}
use Rattle.trace_threads.proofs.threads.run_in_record.Goals as goal

pub returns-clause-run : goal.returns-clause-run
returns-clause-run g c =
    subst (λ b. IfOk c.finish-result.result (IsNotedRun c.args.boot c.args.limit c.args.script c.args.options b c.args.notes)) c.may_shut.ensures
    (finished
    (record {
      journals = c.journals_tell.ensures;
      transparent = c.tracing_is_transparent.ensures;
      texts = c.texts_are_whole.ensures;
      machine = c.linux_is_a_machine.ensures;
      told = c.linux_is_told.ensures;
    })
    c.args.boot c.in-Ok-copy.boot c.args.limit c.args.script c.args.options c.may_shut.result c.args.notes c.into_held.result c.trace_on_threads-traced.result.known c.trace_on_threads-traced.result.trace c.trace_on_threads-traced.result.ended
    c.in-Ok-copy.ensures
    (subst (λ (x : Options). IfOk c.trace_on_threads-traced.result.ended (λ ended. IsTraced c.args.script x ended c.trace_on_threads-traced.result.known c.trace_on_threads-traced.result.trace))
    (limits_are_one (following c.args.options c.args.boot.follow) _) c.trace_on_threads-traced.ensures)
    c.finish-result.result c.finish-result.ensures.run c.finish-result.ensures.events)

pub returns-clause-accepted : goal.returns-clause-accepted
returns-clause-accepted g c = on_ok c.finish-result.result c.in-Ok.ensures.accepted

pub returns-clause-fault : goal.returns-clause-fault
returns-clause-fault g c = subst (λ (b : Boot). IfErr c.finish-result.result (λ fault. Faults b fault)) c.in-Ok-copy.ensures c.finish-result.ensures.fault
