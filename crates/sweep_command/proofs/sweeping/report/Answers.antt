use Rattle.std.proofs.Common.{inl, inr}
use Rattle.sweep_command.proofs.sweeping.report.Goals as goal

pub returns-in-Some : goal.returns-in-Some
returns-in-Some g c = inl (c.in-Some.row, c.in_ok-of_run.ensures)

pub returns : goal.returns
returns g c = inr c.in_ok-of_all.ensures
