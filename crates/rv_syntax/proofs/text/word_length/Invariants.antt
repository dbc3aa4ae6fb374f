use Rattle.std.proofs.Common.{◌≡◌, ◌+◌, drop}
use Rattle.rv_syntax.specs.Text.{run, is_name_byte}
use Rattle.rv_syntax.proofs.text.word_length.Given as goal

abbrev pub invariant-loop-i : goal.invariant-loop-i
invariant-loop-i l = l.i + run is_name_byte (drop l.i l.text) ≡ run is_name_byte l.text
