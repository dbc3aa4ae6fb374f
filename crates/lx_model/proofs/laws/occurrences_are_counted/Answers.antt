use Rattle.lx_model.proofs.KernelLaws.{others_count_nothing, choices_are_by_occurrence}
use Rattle.lx_model.proofs.laws.occurrences_are_counted.Goals as goal

pub returns-clause-others : goal.returns-clause-others
returns-clause-others g c = λ m. others_count_nothing m

pub returns-clause-choice : goal.returns-clause-choice
returns-clause-choice g c = λ m. choices_are_by_occurrence m
