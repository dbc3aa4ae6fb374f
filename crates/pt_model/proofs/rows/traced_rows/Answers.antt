use Rattle.pt_model.proofs.Final.{transparent}
use Rattle.pt_model.proofs.TinyMachine.{tiny_is, tiny_told, options_are, runs_of_tiny}
use Rattle.pt_model.specs.Tiny.{tiny}
use Rattle.pt_model.proofs.rows.traced_rows.Goals as goal

pub returns-clause-runs : goal.returns-clause-runs
returns-clause-runs c = runs_of_tiny

pub returns-clause-transparent : goal.returns-clause-transparent
returns-clause-transparent c = transparent tiny tiny_is tiny_told

pub returns-clause-premises : goal.returns-clause-premises
returns-clause-premises c = record { machine = tiny_is; told = tiny_told; texts = options_are }
