use Rattle.std.proofs.Common.{◌∙◌, ap}
use Rattle.tr_args.specs.Decoders.{text}
use Rattle.tr_args.proofs.Making.{kept_text}
use Rattle.tr_args.proofs.decoder.Decoder.text.Goals as goal

pub returns-in-None : goal.returns-in-None
returns-in-None c = c.as_str.ensures.value ∙ kept_text c.self.inside.context c.self.inside.read.items c.self.inside.wish c.self.inside.made c.in-None.is c.self.invariant ∙ ap text c.self.view_is
