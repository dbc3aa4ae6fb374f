use Rattle.std.proofs.Common.{◌≡◌, ◌++◌, map, length, string_bytes}
use Rattle.std.specs.Vec.Iter.{into_iter_items, into_iter_len}
use Rattle.front_end.proofs.expressions.texts_of.Given as goal

abbrev pub invariant-loop-one : goal.invariant-loop-one
invariant-loop-one l =
    (map string_bytes l.texts.items ++ map (λ one. string_bytes one.text) (into_iter_items l.one-iterator)
    ≡ map (λ one. string_bytes one.text) l.fn.placed.items)
    × (into_iter_len l.one-iterator ≡ length (into_iter_items l.one-iterator))
