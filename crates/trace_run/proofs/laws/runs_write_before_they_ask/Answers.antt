use Rattle.trace_run.specs.Runs.{calls_of}
use Rattle.trace_run.proofs.Owed.{writes_before_it_asks, writes_before_the_link_fails, stops_with_its_writer, resumes_before_it_waits, waits_once_it_resumed}
use Rattle.trace_run.proofs.laws.runs_write_before_they_ask.Goals as goal

pub returns-clause-asks : goal.returns-clause-asks
returns-clause-asks g c = writes_before_it_asks (calls_of g.L.Link.answers g.L.Link.given g.L.Link.broken)

pub returns-clause-link : goal.returns-clause-link
returns-clause-link g c = writes_before_the_link_fails (calls_of g.L.Link.answers g.L.Link.given g.L.Link.broken)

pub returns-clause-writer : goal.returns-clause-writer
returns-clause-writer g c = stops_with_its_writer (calls_of g.L.Link.answers g.L.Link.given g.L.Link.broken)

pub returns-clause-resumed : goal.returns-clause-resumed
returns-clause-resumed g c = resumes_before_it_waits (calls_of g.L.Link.answers g.L.Link.given g.L.Link.broken) c.nobody_is_left_held.ensures.resumed

pub returns-clause-waits : goal.returns-clause-waits
returns-clause-waits g c = waits_once_it_resumed (calls_of g.L.Link.answers g.L.Link.given g.L.Link.broken)
