use Rattle.sweep_faults.proofs.heard.Heard.are_fewer.Goals as goal

pub returns : goal.returns
returns c = λ log h. c.are_fewer.ensures log h.counted
