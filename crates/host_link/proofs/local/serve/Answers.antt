use Rattle.host_link.proofs.local.serve.Goals as goal

pub returns-in-Ok-attend-clause-served : goal.returns-in-Ok-attend-clause-served
returns-in-Ok-attend-clause-served c = record {
  serves = record {
    asked = c.ask.new.self;
    put = c.in-Ok.ensures.put;
    rest = c.in-Ok.ensures.rest;
    attends = c.in-Ok-attend.ensures.attends.attends;
  };
  noted_are = c.in-Ok-attend.ensures.attends.noted_are;
}
