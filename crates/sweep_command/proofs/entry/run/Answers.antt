use Rattle.sweep_command.proofs.entry.run.Goals as goal

pub returns : goal.returns
returns g c = (c.sweep-ended.result, (c.sweep-ended.ensures, c.settle.ensures.status))
