use Rattle.std.proofs.Common.{refl}
use Rattle.rv_syntax.specs.Numbered.{numbered}
use Rattle.rv_syntax.proofs.Registers.{same_register}
use Rattle.rv_syntax.proofs.names.numbered.Goals as goal

pub returns : goal.returns
unfolding numbered
returns c = same_register _ (numbered c.args.number) refl
