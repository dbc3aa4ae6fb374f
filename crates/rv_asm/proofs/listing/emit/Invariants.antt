use Rattle.std.proofs.Common.{◌≡◌, ◌+◌, drop, length}
use Rattle.rv_asm.specs.Listing.{bytes_from, with_front}
use Rattle.rv_syntax.specs.Text.{texts}
use Rattle.rv_asm.proofs.listing.emit.Given as goal

abbrev pub invariant-loop-i : goal.invariant-loop-i
invariant-loop-i l = with_front l.out.items (bytes_from l.labels (0x10000 + length l.out.items) (l.i + 1) (texts (drop l.i l.lines))) ≡ bytes_from l.labels 0x10000 1 (texts l.lines)
