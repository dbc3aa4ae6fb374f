use Rattle.elf_symbols.proofs.Nearest.{nearest_of}
use Rattle.elf_symbols.proofs.laws.answers_are_nearest.Goals as goal

pub returns : goal.returns
returns c = nearest_of
