use Rattle.std.specs.Prelude.{length}
use Rattle.host_shared.specs.Links.{exchanges_of, faults_of}
use Rattle.trace_threads.proofs.Exchanges.{traced_if}
use Rattle.trace_threads.proofs.traced.trace.Goals as goal

pub returns : goal.returns
returns g c =
    traced_if (λ l. exchanges_of l) (λ l. length (exchanges_of l)) (λ l. faults_of l) c.linux_runs_tell.ensures.own c.args.script c.args.options c.new-link.result c.run-ended.new.link c.new-trace.result c.run-ended.new.writer c.run-ended.result c.run-ended.ensures.run
    c.new-link.ensures.nothing c.new-trace.ensures c.into_known.result c.into_known.ensures c.into_bytes.result c.into_bytes.ensures
