use Rattle.sweep_command.proofs.entry.run_cases.Goals as goal

pub returns : goal.returns
returns g c = (c.sweep_cases-ended.result, (c.sweep_cases-ended.ensures, c.settle.ensures.status))
