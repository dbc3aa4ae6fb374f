use Rattle.lx_sound.proofs.Counts.{entries_are_few}
use Rattle.lx_sound.proofs.laws.entries_are_few.Goals as goal

pub returns : goal.returns
returns c = entries_are_few c.boots_are_first_runs.ensures.first c.boots_are_first_runs.ensures.steps
