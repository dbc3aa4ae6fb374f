use Rattle.trace_threads.proofs.Working.{none_is_idle, none_is_still}
use Rattle.trace_threads.proofs.fault.none_is_idle.Goals as goal

pub returns-clause-event : goal.returns-clause-event
returns-clause-event c = none_is_idle

pub returns-clause-turn : goal.returns-clause-turn
returns-clause-turn c = none_is_still c.journals_tell.ensures
