use Rattle.std.proofs.Common.{◌≡◌, ◌+◌, ◌++◌, ◌≤◌, drop}
use Rattle.rv_asm.specs.Listing.{places}
use Rattle.rv_syntax.specs.Text.{texts}
use Rattle.rv_asm.proofs.listing.place.Given as goal

abbrev pub invariant-loop-i : goal.invariant-loop-i
invariant-loop-i l = record {
  so_far : l.labels ++ places l.at (l.i + 1) (texts (drop l.i l.lines)) ≡ places 0x10000 1 (texts l.lines);
  small : l.at ≤ 0x20000;
}
