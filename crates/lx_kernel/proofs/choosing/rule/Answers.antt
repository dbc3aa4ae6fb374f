use Rattle.std.proofs.Common.{not, refl, ap}
use Rattle.lx_abi.specs.Scripts.{among}
use Rattle.lx_kernel.proofs.Choices.{covers_each}
use Rattle.lx_kernel.proofs.choosing.rule.Goals as goal

pub returns : goal.returns
returns c = record { named = λ call. ap (λ calls. not (among calls call)) c.requires; covered = covers_each; chosen = refl }
