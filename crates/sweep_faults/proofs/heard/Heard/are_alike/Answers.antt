use Rattle.std.proofs.Common.{◌∙◌}
use Rattle.sweep_rows.proofs.Likening.{whole_are}
use Rattle.sweep_faults.specs.Processes.{likeness_in}
use Rattle.sweep_faults.proofs.heard.Heard.are_alike.Goals as goal

pub returns : goal.returns
returns c = λ reference log made h.
    c.are_whole.ensures
    ∙ whole_are c.args.calls.now (likeness_in c.args.self.now.processes) reference log made h.beside c.args.ended.now
