use Rattle.host_frame.proofs.Whole.{frame_takes}
use Rattle.host_frame.proofs.laws.what_is_read_is_spelled.Goals as goal

pub returns : goal.returns
returns c = frame_takes
