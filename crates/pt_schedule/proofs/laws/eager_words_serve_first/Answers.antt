use Rattle.pt_schedule.proofs.Cursors.{serve_first}
use Rattle.pt_schedule.proofs.laws.eager_words_serve_first.Goals as goal

pub returns : goal.returns
returns c = serve_first
