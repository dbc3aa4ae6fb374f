use Rattle.host_wire.proofs.Spelled.{first_read}
use Rattle.host_wire.proofs.laws.first_frames_are_read.Goals as goal

pub returns : goal.returns
returns c = first_read c.what_is_encoded_reads_back.ensures.back
