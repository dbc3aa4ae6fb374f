use Rattle.std.proofs.Common.{◌≡◌, ◌+◌, ◌*◌, ◌≤◌, ◌^◌, drop, false}
use Rattle.elf_image.specs.Layout.{any_share, page_count}
use Rattle.elf_image.proofs.layout.pages.Given as goal

abbrev pub invariant-loop-i : goal.invariant-loop-i
invariant-loop-i l = record {
  so_far : l.count + page_count (drop l.i l.extents) ≡ page_count l.extents;
  apart : any_share (drop l.i l.extents) ≡ false;
  small : l.count ≤ 2 ^ 32 * l.i;
}
