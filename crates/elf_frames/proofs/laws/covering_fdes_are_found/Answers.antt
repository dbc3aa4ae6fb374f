use Rattle.elf_symbols.proofs.Ranges.{range_is_found}
use Rattle.elf_frames.specs.Index.{start_of, stop_of, fde_at}
use Rattle.elf_frames.proofs.laws.covering_fdes_are_found.Goals as goal

pub returns : goal.returns
unfolding fde_at
returns c = range_is_found start_of stop_of
