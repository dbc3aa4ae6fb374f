use Rattle.std.proofs.Common.{refl, ◌∙◌}
use Rattle.sweep_runs.proofs.leading.Leader.go_back.Goals as goal

pub returns-clause-boot : goal.returns-clause-boot
returns-clause-boot c = record {
  first = c.replace-old.ensures.after ∙ c.in_ok-kernel.ensures.kernel;
  words = c.in_ok-kernel.ensures.schedule;
  nowhere = refl;
  heard = c.new.ensures;
}
