use Rattle.host_frame.proofs.Fitting.{frame_fits, reads_back}
use Rattle.host_frame.proofs.laws.what_is_encoded_reads_back.Goals as goal

pub returns-clause-back : goal.returns-clause-back
returns-clause-back c = reads_back

pub returns-clause-fits : goal.returns-clause-fits
returns-clause-fits c = frame_fits
