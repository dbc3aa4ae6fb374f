use Rattle.std.proofs.Common.{◌++◌, replicate, ap, ◌∙◌}
use Rattle.pt_kernel.specs.Noted.{all_events}
use Rattle.pt_kernel.proofs.Noting.{all_events-append}
use Rattle.pt_kernel.proofs.events.push.Goals as goal

pub returns : goal.returns
returns c =
    ap all_events c.in_ok-push.ensures.items
    ∙ all_events-append c.lengthen.new.rows.items _
    ∙ ap (λ t. t ++ replicate c.args.times c.args.event) c.if-lengthen.ensures
