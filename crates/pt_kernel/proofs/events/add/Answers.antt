use Rattle.std.proofs.Common.{◌++◌, replicate, sym, ap, ◌∙◌}
use Rattle.std.proofs.lemmas.List.{replicate-append-replicate}
use Rattle.pt_kernel.proofs.events.add.Goals as goal

pub returns : goal.returns
returns c =
    sym (replicate-append-replicate c.args.row.now.times c.args.times c.args.row.now.event)
    ∙ ap (λ e. replicate c.args.row.now.times c.args.row.now.event ++ replicate c.args.times e) (c.is_same.ensures c.if-not-is_same.false)
