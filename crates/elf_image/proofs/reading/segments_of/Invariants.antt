use Rattle.std.proofs.Common.{◌≡◌, map, take}
use Rattle.elf_image.specs.Images.{segment_of}
use Rattle.elf_image.proofs.reading.segments_of.Given as goal

abbrev pub invariant-loop-header : goal.invariant-loop-header
invariant-loop-header l = l.segments.items ≡ map (segment_of l.bytes) (take l.header-index l.headers)
