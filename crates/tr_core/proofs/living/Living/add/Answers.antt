use Rattle.std.proofs.Common.{ap, ◌∙◌}
use Rattle.pt_model.specs.Tracer.{with_tracee}
use Rattle.tr_core.proofs.Livings.{insert-is}
use Rattle.tr_core.proofs.living.Living.add.Goals as goal

pub returns : goal.returns
returns c = c.in_ok-insert.ensures.keys ∙ insert-is c.self.inside.pids.keys c.args.pid ∙ ap (λ l. with_tracee l c.args.pid) c.self.view_is
