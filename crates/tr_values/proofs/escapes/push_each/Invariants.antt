use Rattle.std.proofs.Common.{◌≡◌, ◌++◌, length, string_bytes}
use Rattle.tr_values.specs.Escapes.{escaped}
use Rattle.tr_values.proofs.escapes.push_each.Given as goal

-- what is left to escape is what is left to write
abbrev pub invariant-loop-left : goal.invariant-loop-left
invariant-loop-left l =
    (string_bytes l.text ++ l.buffer) ++ escaped l.left
    ≡ (string_bytes l.initial.text ++ l.initial.buffer) ++ escaped l.fn.bytes

abbrev pub decreases-loop-left : goal.decreases-loop-left
decreases-loop-left l = length l.left
