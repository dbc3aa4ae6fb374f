use Rattle.std.proofs.Common.{◌-◌, ap}
use Rattle.tr_args.specs.declared.progress.Stage.TheVariants.{Under}
use Rattle.tr_args.specs.Progress.{stage_left}
use Rattle.tr_args.proofs.Making.{made_whole}
use Rattle.tr_args.proofs.progress.made_with.Goals as goal

pub returns-in-Ok : goal.returns-in-Ok
returns-in-Ok c = made_whole c.args.context.now (stage_left c.args.context.now (Under c.args.row)) c.args.sheet c.rest_on.new.sheet c.args.count (c.args.count - c.unread.result) c.into_text.result c.into_text.ensures (ap (λ n. c.args.count - n) c.unread.ensures) c.requires.count c.in-Ok.ensures.goes
