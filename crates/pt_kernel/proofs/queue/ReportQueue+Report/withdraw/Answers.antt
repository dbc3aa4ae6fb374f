use Rattle.std.proofs.Common.{ap, ◌∙◌, not, rules}
use Rattle.std.specs.Prelude.{◌==◌}
use Rattle.std.proofs.lemmas.Fn.{filter_same}
use Rattle.pt_model.specs.Ptrace.{without}
use Rattle.pt_kernel.proofs.queue.ReportQueue+Report.withdraw.Goals as goal

pub returns : goal.returns
returns c = filter_same _ (λ r. not (c.args.pid == r.pid)) _ (λ x b f' r. search rules) _ _ c.retain.ensures.filtered ∙ ap (without c.args.pid) c.self.view_is
