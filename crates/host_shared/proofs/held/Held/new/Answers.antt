use Rattle.host_shared.proofs.Keeping.{keeps_first}
use Rattle.std.proofs.Common.{◌∙◌}
use Rattle.host_shared.proofs.held.Held.new.Goals as goal

pub invariant_of-result : goal.invariant_of-result
invariant_of-result g c =
    keeps_first c.args.boot c.in-Ok-kept.boot c.of.result c.new.result c.args.said c.args.limit
    c.in-Ok.ensures.accepted (c.of.ensures ∙ c.list_files.ensures ∙ c.in-Ok.ensures.first) c.in-Ok-kept.ensures c.new.ensures c.requires.nothing
