use Rattle.lx_laws.proofs.Manual.{refused_calls_change_nothing, children_begin_alike, programs_keep_descriptors}
use Rattle.lx_laws.proofs.laws.calls_are_as_told.Goals as goal

pub returns-clause-refused : goal.returns-clause-refused
returns-clause-refused c = refused_calls_change_nothing

pub returns-clause-child : goal.returns-clause-child
returns-clause-child c = children_begin_alike

pub returns-clause-program : goal.returns-clause-program
returns-clause-program c = programs_keep_descriptors
