use Rattle.std.proofs.Common.{◌∙◌, ◌==◌, ap}
use Rattle.trace_command.proofs.Reaching.{reaches_part, reaches_whole}
use Rattle.trace_command.proofs.outlet.ended_but_for.Goals as goal

pub returns-then-is_empty : goal.returns-then-is_empty
returns-then-is_empty c = reaches_whole c.args.ended c.args.rest.items (c.is_empty.ensures ∙ ap (λ n. n == 0) c.args.rest.ok.0) c.if-is_empty.true

pub returns : goal.returns
returns c = reaches_part c.args.ended c.args.rest.items (c.is_empty.ensures ∙ ap (λ n. n == 0) c.args.rest.ok.0) c.if-is_empty.false
