use Rattle.pt_model.proofs.Apart.{first_report_is_told, fork_is_told_first, one_report_a_stop, no_other_report}
use Rattle.pt_model.proofs.laws.stops_are_told_once.Goals as goal

pub returns-clause-first : goal.returns-clause-first
returns-clause-first g c = λ m. first_report_is_told m

pub returns-clause-fork : goal.returns-clause-fork
returns-clause-fork g c = λ m. fork_is_told_first m

pub returns-clause-one : goal.returns-clause-one
returns-clause-one g c = λ m. one_report_a_stop m

pub returns-clause-no_other : goal.returns-clause-no_other
returns-clause-no_other g c = λ m. no_other_report m
