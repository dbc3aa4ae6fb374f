use Rattle.sweep_trials.proofs.second.end_on.Goals as goal

pub returns : goal.returns
returns c = record {
  start = c.in_ok-start.start;
  is_second = c.in_ok-start.ensures;
  reached = c.in_ok-reached.reached;
  came = c.in_ok-reached.ensures;
  end_is = c.first_word-word.ensures;
}
