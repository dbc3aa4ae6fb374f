use Rattle.std.proofs.Common.{sym, ◌∙◌}
use Rattle.tr_core.specs.Tracers.{state_of}
use Rattle.tr_core.proofs.Ending.{outcome-is}
use Rattle.tr_core.proofs.tracer.Tracer.into_parts.Goals as goal

pub returns-clause-outcome : goal.returns-clause-outcome
unfolding state_of
returns-clause-outcome c = c.outcome.ensures ∙ sym (outcome-is c.args.self.core c.args.self.taken c.args.self.failed)
