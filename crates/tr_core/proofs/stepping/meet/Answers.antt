use Rattle.std.proofs.Common.{sym, ap, ◌∙◌}
use Rattle.std.specs.Option.{option_copied}
use Rattle.tr_core.proofs.stepping.meet.Goals as goal

pub put_in-requires : goal.put_in-requires
put_in-requires c = sym c.get.ensures ∙ ap option_copied c.in-None.is
