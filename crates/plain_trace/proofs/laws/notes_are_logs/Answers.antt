use Rattle.plain_trace.proofs.Logs.{notes_logs}
use Rattle.plain_trace.proofs.laws.notes_are_logs.Goals as goal

pub returns : goal.returns
returns c = notes_logs c.boots_are_first_runs.ensures.first
