use Rattle.std.proofs.Common.{◌≡◌, ◌+◌, ◌≤◌, length}
use Rattle.dwarf_data.specs.Reading.{text_length}
use Rattle.dwarf_data.proofs.reading.text_length.Given as goal

abbrev pub invariant-loop-byte : goal.invariant-loop-byte
invariant-loop-byte l =
    (l.length + text_length l.left ≡ text_length l.bytes) × (l.length + length l.left ≤ length l.bytes)

abbrev pub decreases-loop-byte : goal.decreases-loop-byte
decreases-loop-byte l = length l.left
