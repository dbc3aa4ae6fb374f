use Rattle.host_ends.proofs.Recorded.{faults_are_caused, replies_are_those}
use Rattle.host_ends.proofs.laws.recorded_replies_are_given.Goals as goal

pub returns-clause-replies : goal.returns-clause-replies
returns-clause-replies c = replies_are_those c.first_frames_are_read.ensures

pub returns-clause-faults : goal.returns-clause-faults
returns-clause-faults c = faults_are_caused c.what_is_encoded_reads_back.ensures.fits c.spelled_frames_are_read.ensures c.pieces_join.ensures c.first_frames_are_read.ensures
