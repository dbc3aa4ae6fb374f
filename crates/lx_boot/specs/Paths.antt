-- Paths of a boot's files.
use Rattle.std.specs.Prelude.{ℕ, ◌==◌, ◌&&◌, nat_eq, Bool, List, length, slice_index}
use Rattle.std.specs.List.{starts_with}

-- the path goes on, behind the other, with a slash
abbrev pub is_under : List ℕ → List ℕ → Bool
is_under path above = starts_with nat_eq path above && (slice_index path (length above) == 47)
