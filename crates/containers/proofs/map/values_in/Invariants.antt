use Rattle.std.proofs.Common.{◌≡◌, ◌++◌, map}
use Rattle.containers.proofs.map.values_in.Given as goal

abbrev pub invariant-loop-key : goal.invariant-loop-key
invariant-loop-key g l = map (λ r. r.now) l.list.items ++ map (λ e. e.1) l._key-iterator ≡ map (λ e. e.1) l.tree.entries
