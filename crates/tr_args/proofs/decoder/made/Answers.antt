use Rattle.tr_args.proofs.Making.{made_text}
use Rattle.tr_args.proofs.decoder.made.Goals as goal

pub returns-in-None-clause-text : goal.returns-in-None-clause-text
returns-in-None-clause-text c = made_text c.args.context.now c.args.read.now c.in_ok-made.wish c.in_ok-made.made c.in-None.is c.in_ok-made.ensures.whole c.in_ok-made.ensures.made
