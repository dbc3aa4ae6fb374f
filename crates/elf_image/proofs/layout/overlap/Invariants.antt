use Rattle.std.proofs.Common.{◌≡◌, drop}
use Rattle.elf_image.specs.Layout.{any_share}
use Rattle.elf_image.proofs.layout.overlap.Given as goal

abbrev pub invariant-loop-i : goal.invariant-loop-i
invariant-loop-i l = any_share (drop l.i l.extents) ≡ any_share l.fn.extents
