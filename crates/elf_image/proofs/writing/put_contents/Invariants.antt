use Rattle.std.proofs.Common.{◌≡◌, ◌++◌, drop}
use Rattle.elf_image.specs.Files.{contents_of}
use Rattle.elf_image.proofs.writing.put_contents.Given as goal

abbrev pub invariant-loop-segment : goal.invariant-loop-segment
invariant-loop-segment l = l.out.items ++ contents_of (drop l.segment-index l.segments) ≡ l.fn.out.items ++ contents_of l.segments
