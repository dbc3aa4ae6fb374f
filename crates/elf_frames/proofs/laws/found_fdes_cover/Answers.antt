use Rattle.elf_symbols.proofs.Ranges.{range_covers}
use Rattle.elf_frames.specs.Index.{start_of, stop_of, fde_at}
use Rattle.elf_frames.proofs.laws.found_fdes_cover.Goals as goal

pub returns : goal.returns
unfolding fde_at
returns c = range_covers start_of stop_of
