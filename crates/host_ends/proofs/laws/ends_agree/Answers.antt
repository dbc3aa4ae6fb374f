use Rattle.host_ends.proofs.Recorded.{ends_agree}
use Rattle.host_ends.proofs.laws.ends_agree.Goals as goal

pub returns : goal.returns
returns c = ends_agree c.first_frames_are_read.ensures
