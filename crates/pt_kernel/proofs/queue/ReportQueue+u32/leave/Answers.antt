use Rattle.std.proofs.Common.{ap, ◌∙◌, filter, not, rules}
use Rattle.std.specs.Prelude.{◌==◌}
use Rattle.std.proofs.lemmas.Fn.{filter_same}
use Rattle.pt_kernel.proofs.queue.ReportQueue+u32.leave.Goals as goal

pub returns : goal.returns
returns c =
    filter_same _ (λ q. not (c.args.pid == q)) _ (λ x b f' r. search rules) _ _ c.retain.ensures.filtered
    ∙ ap (filter (λ q. not (c.args.pid == q))) c.self.view_is
