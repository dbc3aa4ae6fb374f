use Rattle.std.proofs.Common.{◌≡◌, ◌+◌, drop}
use Rattle.rv_syntax.specs.Text.{run, is_code}
use Rattle.rv_syntax.proofs.text.comment_at.Given as goal

abbrev pub invariant-loop-i : goal.invariant-loop-i
invariant-loop-i l = l.i + run is_code (drop l.i l.text) ≡ run is_code l.text
