use Rattle.trace_command.proofs.prepared.keep.Goals as goal

pub returns : goal.returns
returns c = record {
  asked = c.asked_by-asked.ensures.events;
  limit = c.asked_by-asked.ensures.limit;
  second = c.in_ok-second.ensures;
}
