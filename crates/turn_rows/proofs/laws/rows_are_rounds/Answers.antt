use Rattle.turn_rows.proofs.Rows.{rows_as_rounds}
use Rattle.turn_rows.proofs.laws.rows_are_rounds.Goals as goal

pub returns : goal.returns
returns c = rows_as_rounds
