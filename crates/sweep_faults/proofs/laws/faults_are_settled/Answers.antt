use Rattle.sweep_faults.proofs.Rows.{ends_settled, runs_keep_logs, stops_turns}
use Rattle.sweep_faults.proofs.Wording.{words_give}
use Rattle.sweep_faults.proofs.laws.faults_are_settled.Goals as goal

pub returns-clause-settled : goal.returns-clause-settled
returns-clause-settled c = ends_settled

pub returns-clause-kept : goal.returns-clause-kept
returns-clause-kept c = runs_keep_logs

pub returns-clause-stops : goal.returns-clause-stops
returns-clause-stops c = stops_turns

pub returns-clause-words : goal.returns-clause-words
returns-clause-words c = words_give
