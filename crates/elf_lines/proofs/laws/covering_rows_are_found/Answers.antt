use Rattle.elf_symbols.proofs.Ranges.{range_is_found}
use Rattle.elf_lines.specs.Index.{start_of, stop_of, row_at}
use Rattle.elf_lines.proofs.laws.covering_rows_are_found.Goals as goal

pub returns : goal.returns
unfolding row_at
returns c = range_is_found start_of stop_of
