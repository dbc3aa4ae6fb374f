use Rattle.host_wire.proofs.Streams.{no_frame_short}
use Rattle.host_wire.proofs.laws.bytes_without_a_frame_are_few.Goals as goal

pub returns : goal.returns
returns c = no_frame_short
