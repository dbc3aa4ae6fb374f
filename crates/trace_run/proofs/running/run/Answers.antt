use Rattle.trace_run.proofs.running.run.Goals as goal

pub returns-clause-run : goal.returns-clause-run
returns-clause-run g c = c.run_counting-ended.ensures.counting.run
