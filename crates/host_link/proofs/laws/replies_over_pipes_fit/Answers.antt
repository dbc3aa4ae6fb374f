use Rattle.host_link.proofs.Replies.{exchanged_fits}
use Rattle.host_link.proofs.laws.replies_over_pipes_fit.Goals as goal

pub returns : goal.returns
returns c = exchanged_fits
