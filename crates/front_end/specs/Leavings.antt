-- Where a guest's path may lead below a directory.
use Rattle.std.specs.Prelude.{ℕ, Bool, true, false, not, ◌==◌, ◌&&◌, ◌||◌, List, [], ◌∷◌}
use Rattle.std.specs.List.{list_any, slice_split}
use Rattle.std.specs.Str.{bytes_eq}

-- an empty name, `.` or `..`, which lead nowhere or up
unfoldable pub is_no_name : List ℕ → Bool
is_no_name part = bytes_eq part [] || bytes_eq part (46 ∷ []) || bytes_eq part (46 ∷ 46 ∷ [])

-- names behind slashes alone, and no NUL
unfoldable pub is_below : List ℕ → Bool
is_below [] = false
is_below (b ∷ rest) =
    b == 47 && not (list_any is_no_name (slice_split (λ c. c == 47) rest)) && not (list_any (λ c. c == 0) rest)
