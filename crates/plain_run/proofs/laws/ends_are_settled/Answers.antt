use Rattle.plain_run.proofs.Turning.{ends_settled, runs_turns, runs_keep_logs, with_log}
use Rattle.plain_run.proofs.laws.ends_are_settled.Goals as goal

pub returns-clause-settled : goal.returns-clause-settled
returns-clause-settled c = ends_settled

pub returns-clause-turns : goal.returns-clause-turns
returns-clause-turns c = runs_turns

pub returns-clause-kept : goal.returns-clause-kept
returns-clause-kept c = runs_keep_logs

pub returns-clause-alike : goal.returns-clause-alike
returns-clause-alike c = with_log
