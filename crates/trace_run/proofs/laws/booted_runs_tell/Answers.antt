use Rattle.trace_run.proofs.Booted.{booted_runs, booted_traces, booted_fails, kept_fails}
use Rattle.trace_run.proofs.laws.booted_runs_tell.Goals as goal

pub returns-clause-run : goal.returns-clause-run
returns-clause-run c = booted_runs c.local_links_tell.ensures c.hosts_run_alike.ensures.begin

pub returns-clause-trace : goal.returns-clause-trace
returns-clause-trace c = booted_traces c.local_links_tell_parts.ensures c.hosts_run_alike.ensures.begin

pub returns-clause-fails : goal.returns-clause-fails
returns-clause-fails c = booted_fails c.local_links_fail.ensures c.hosts_run_alike.ensures.begin

pub returns-clause-kept : goal.returns-clause-kept
returns-clause-kept c = kept_fails c.local_links_fail.ensures c.hosts_run_alike.ensures.begin
