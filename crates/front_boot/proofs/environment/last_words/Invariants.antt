use Rattle.std.proofs.Common.{◌≡◌, ◌++◌, ℕ, List, map, reverse}
use Rattle.std.specs.Iterator.Adapters.{rev_source}
use Rattle.std.specs.Slice.Iter.{iter_rest}
use Rattle.front_boot.specs.Environment.{environment, has, set_by}
use Rattle.front_boot.proofs.environment.last_words.Given as goal

abbrev pub invariant-loop-word : goal.invariant-loop-word
invariant-loop-word l =
    (done : List (List ℕ))
    × (map (λ word. word.now) (iter_rest (rev_source l.word-iterator)) ++ done ≡ map (λ word. word.now) l.words)
    × ((name : List ℕ) → has l.names name ≡ set_by done name)
    × (map (λ word. word.now) l.kept.items ≡ reverse (environment done))
