use Rattle.sweep_runs.proofs.Reaching.{words_reach}
use Rattle.sweep_runs.proofs.laws.words_reach.Goals as goal

pub returns : goal.returns
returns c = words_reach
