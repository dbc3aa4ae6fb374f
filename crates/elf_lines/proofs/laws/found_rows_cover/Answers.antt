use Rattle.elf_symbols.proofs.Ranges.{range_covers}
use Rattle.elf_lines.specs.Index.{start_of, stop_of, row_at}
use Rattle.elf_lines.proofs.laws.found_rows_cover.Goals as goal

pub returns : goal.returns
unfolding row_at
returns c = range_covers start_of stop_of
