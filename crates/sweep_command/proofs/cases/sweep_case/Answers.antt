use Rattle.sweep_command.proofs.cases.sweep_case.Goals as goal

pub returns-in-Ok : goal.returns-in-Ok
returns-in-Ok g c = record {
  plan = c.in_ok-begun.begun.plan;
  words = c.in_ok-words.words;
  reference = c.in_ok-begun.begun.reference;
  runs = c.in_ok-begun.ensures.reaches;
  ran = c.in_ok-begun.ensures.ran;
  of_report = c.in-Ok.ensures;
}
