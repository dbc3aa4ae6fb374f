use Rattle.std.proofs.Common.{sym, subst}
use Rattle.std.specs.Prelude.{OnOk}
use Rattle.host_link.specs.LocalLinks.{host_of}
use Rattle.trace_run.specs.BootedRuns.{BootedRunsFail, BootedTracesTell}
use Rattle.trace_run.specs.Records.{BootedRunsLeave, Leaves}
use Rattle.trace_run.proofs.local.trace_local.Goals as goal

pub returns-clause-trace : goal.returns-clause-trace
unfolding BootedTracesTell
returns-clause-trace g c = c.booted_runs_tell.ensures.trace c.args.boot c.args.schedule c.args.script c.args.options _ c.run_counting-ended.new.link _ _ c.run_counting-ended.result.0 c.in_ok-local.ensures.link c.run_counting-ended.ensures.counting.run

pub returns-clause-fails : goal.returns-clause-fails
unfolding BootedRunsFail
returns-clause-fails g c = c.booted_runs_tell.ensures.fails c.args.boot c.args.schedule c.args.script c.args.options _ c.run_counting-ended.new.link _ _ c.run_counting-ended.result.0 c.in_ok-local.ensures.link c.run_counting-ended.ensures.counting.run

pub returns-clause-left : goal.returns-clause-left
unfolding BootedRunsLeave
returns-clause-left g c =
    subst (λ host. OnOk c.run_counting-ended.result.0 (Leaves c.args.boot c.args.schedule c.args.script c.args.options c.args.notes host c.into_parts-host.result.1)) (sym c.into_parts-host.ensures.host)
    (subst (λ noted. OnOk c.run_counting-ended.result.0 (Leaves c.args.boot c.args.schedule c.args.script c.args.options c.args.notes (host_of c.run_counting-ended.new.link) noted)) (sym c.into_parts-host.ensures.noted)
    (c.booted_runs_leave.ensures c.args.boot c.args.schedule c.args.script c.args.options c.args.notes _ c.run_counting-ended.new.link _ _ c.run_counting-ended.result.0 c.in_ok-local.ensures.link c.in_ok-local.ensures.noted c.run_counting-ended.ensures.counting.run))
