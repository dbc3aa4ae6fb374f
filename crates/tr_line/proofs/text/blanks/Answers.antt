use Rattle.std.proofs.lemmas.List.{take-replicate}
use Rattle.tr_line.proofs.text.blanks.Goals as goal

pub returns : goal.returns
returns c = take-replicate c.args.n 64 32 c.requires
