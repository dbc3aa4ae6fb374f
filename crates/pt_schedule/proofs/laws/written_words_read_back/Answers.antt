use Rattle.pt_schedule.proofs.ReadBack.{read_back, events_given}
use Rattle.pt_schedule.proofs.laws.written_words_read_back.Goals as goal

pub returns-clause-words : goal.returns-clause-words
returns-clause-words c = read_back

pub returns-clause-events : goal.returns-clause-events
returns-clause-events c = events_given
