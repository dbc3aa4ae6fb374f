use Rattle.host_frame.proofs.Whole.{frame_again}
use Rattle.host_frame.proofs.laws.what_is_spelled_is_read.Goals as goal

pub returns : goal.returns
returns c = frame_again
