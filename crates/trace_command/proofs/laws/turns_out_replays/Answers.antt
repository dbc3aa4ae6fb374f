use Rattle.trace_command.proofs.Replayed.{events_again, runs_again}
use Rattle.trace_command.proofs.Threaded.{thread_runs_again}
use Rattle.trace_command.proofs.laws.turns_out_replays.Goals as goal

pub returns-clause-events : goal.returns-clause-events
returns-clause-events c = events_again c.events_are_few.ensures.few c.written_words_read_back.ensures.words

pub returns-clause-runs : goal.returns-clause-runs
returns-clause-runs c = runs_again c.events_are_few.ensures.few c.written_words_read_back.ensures.words

pub returns-clause-threads : goal.returns-clause-threads
returns-clause-threads c = thread_runs_again c.written_words_read_back.ensures.words c.threads_take_turns.ensures
