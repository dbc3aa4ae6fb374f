use Rattle.std.proofs.Common.{◌≡◌, ◌++◌, drop}
use Rattle.elf_image.specs.Files.{table_of}
use Rattle.elf_image.proofs.writing.put_table.Given as goal

abbrev pub invariant-loop-segment : goal.invariant-loop-segment
invariant-loop-segment l = l.out.items ++ table_of l.offset (drop l.segment-index l.segments) ≡ l.fn.out.items ++ table_of l.first l.segments
