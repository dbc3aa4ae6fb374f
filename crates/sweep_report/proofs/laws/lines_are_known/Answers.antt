use Rattle.sweep_report.proofs.Lines.{like_itself}
use Rattle.sweep_report.proofs.laws.lines_are_known.Goals as goal

pub returns : goal.returns
returns c = like_itself
