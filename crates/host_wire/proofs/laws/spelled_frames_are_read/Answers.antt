use Rattle.host_wire.proofs.Spelled.{frames_read}
use Rattle.host_wire.proofs.laws.spelled_frames_are_read.Goals as goal

pub returns : goal.returns
returns c = frames_read c.what_is_spelled_is_read.ensures
