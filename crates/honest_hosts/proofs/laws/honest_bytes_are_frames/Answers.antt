use Rattle.honest_hosts.proofs.Pieces.{bytes_are_frames, no_reply_is_malformed, no_reply_is_out_of_sequence}
use Rattle.honest_hosts.specs.Bytes.{BytesAreFrames}
use Rattle.honest_hosts.proofs.laws.honest_bytes_are_frames.Goals as goal

pub returns-clause-frames : goal.returns-clause-frames
returns-clause-frames c = bytes_are_frames c.honest_replies_read_back.ensures.served c.what_is_encoded_reads_back.ensures.fits c.pieces_join.ensures c.spelled_frames_are_read.ensures

pub returns-clause-malformed : goal.returns-clause-malformed
returns-clause-malformed c =
    let framed : BytesAreFrames = bytes_are_frames c.honest_replies_read_back.ensures.served c.what_is_encoded_reads_back.ensures.fits c.pieces_join.ensures c.spelled_frames_are_read.ensures in
    no_reply_is_malformed c.pieces_join.ensures framed

pub returns-clause-sequence : goal.returns-clause-sequence
returns-clause-sequence c =
    no_reply_is_out_of_sequence c.honest_replies_read_back.ensures.served c.what_is_encoded_reads_back.ensures.fits c.pieces_join.ensures c.spelled_frames_are_read.ensures
