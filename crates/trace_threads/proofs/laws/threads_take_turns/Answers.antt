use Rattle.trace_threads.proofs.Due.{threads_take_turns}
use Rattle.trace_threads.proofs.laws.threads_take_turns.Goals as goal

pub returns : goal.returns
returns c =
    threads_take_turns (record {
      ready = c.turns_tell.ensures.ready;
      alike = c.hosts_run_alike.ensures.event;
      begin = c.hosts_run_alike.ensures.begin;
      journals = c.journals_tell.ensures;
    })
