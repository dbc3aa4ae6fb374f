use Rattle.std.proofs.Common.{◌≡◌, ◌+◌, drop}
use Rattle.rv_syntax.specs.Text.{run, is_blank}
use Rattle.rv_syntax.proofs.text.blanks.Given as goal

abbrev pub invariant-loop-i : goal.invariant-loop-i
invariant-loop-i l = l.i + run is_blank (drop l.i l.text) ≡ run is_blank l.text
