use Rattle.std.proofs.Common.{ap, ◌∙◌}
use Rattle.std.specs.FinMap as maps
use Rattle.tr_line.specs.OpenCalls.{with_latest}
use Rattle.tr_line.proofs.OpenCalls.{removed}
use Rattle.tr_line.proofs.open_calls.OpenCalls.remove.Goals as goal

pub returns : goal.returns
returns c =
    ap (λ m. with_latest m c.without-self-inside.result) c.remove.ensures.rest
    ∙ ap (with_latest (maps.remove c.self.inside.others c.args.pid)) c.without-self-inside.ensures
    ∙ removed c.self.inside.others c.self.inside.latest c.args.pid
    ∙ ap (λ m. maps.remove m c.args.pid) c.self.view_is
