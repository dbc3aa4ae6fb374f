use Rattle.call_laws.proofs.Manual.{writes_go_behind, reads_take_the_front, ends_with_its_writers}
use Rattle.call_laws.proofs.laws.pipes_are_queues.Goals as goal

pub returns-clause-writes : goal.returns-clause-writes
returns-clause-writes c = writes_go_behind

pub returns-clause-reads : goal.returns-clause-reads
returns-clause-reads c = reads_take_the_front

pub returns-clause-ends : goal.returns-clause-ends
returns-clause-ends c = ends_with_its_writers
