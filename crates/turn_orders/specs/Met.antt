-- The orders that runs had: whose their steps were.
use Rattle.std.specs.Prelude.{ℕ, Bool, List}
use Rattle.std.specs.List.{list_any}
use Rattle.std.specs.BTreeMap.{is_at}
use Rattle.std.specs.BTreeSet.{insert_key}
use Rattle.std.specs.Cmp.Lexicographic.{slice_cmp}
use Rattle.std.specs.Ordering.{nat_cmp}

-- this one is among them
abbrev pub has : List (List ℕ) → List ℕ → Bool
has orders o = list_any (is_at (slice_cmp nat_cmp o)) orders

-- with this one, in their order
abbrev pub with_order : List (List ℕ) → List ℕ → List (List ℕ)
with_order orders o = insert_key (slice_cmp nat_cmp) orders o
