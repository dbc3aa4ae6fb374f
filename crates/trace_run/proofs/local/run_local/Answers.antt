use Rattle.trace_run.specs.BootedRuns.{BootedRunsTell, KeptRun, KeptRunsFail}
use Rattle.trace_run.proofs.local.run_local.Goals as goal

pub returns-in-Ok-finish-clause-run : goal.returns-in-Ok-finish-clause-run
unfolding BootedRunsTell KeptRun
returns-in-Ok-finish-clause-run c =
    c.booted_runs_tell.ensures.run c.args.boot c.args.schedule c.args.script c.args.options _ c.kept_run.new.link c.new-trace.result c.kept_run.new.trace
    c.in-Ok.ended c.in-Ok-finish.run' c.in_ok-link.ensures.link c.new-trace.ensures c.in-Ok.ensures c.in-Ok-finish.ensures

pub refusal-requires : goal.refusal-requires
unfolding KeptRunsFail KeptRun
refusal-requires c =
    c.booted_runs_tell.ensures.kept c.args.boot c.args.schedule c.args.script c.args.options _ c.kept_run.new.link c.new-trace.result c.kept_run.new.trace
    c.in-Err.fault c.in_ok-link.ensures.link c.in-Err.ensures
