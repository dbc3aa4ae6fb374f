-- The words of --dir, and the paths of what its directories hold.
use Rattle.std.specs.Prelude.{ℕ, List, [], ◌++◌, Option, Some, None, ◌&&◌, if◌then◌else◌, nat_lt, ◌==◌, length, codes, bytes_eq}
use Rattle.std.specs.List.{before_first, after_first, position_or_len}

-- the path of a name in a directory, of which the root's ends in its slash
abbrev pub below : List ℕ → List ℕ → List ℕ
below directory name = (if bytes_eq directory (codes "/") then [] else directory) ++ codes "/" ++ name

-- GUEST and DIR of a word GUEST=DIR, which its first = divides
abbrev pub divided : List ℕ → Option (List ℕ × List ℕ)
divided word =
    if nat_lt (position_or_len (λ b. b == 61) word) (length word) && nat_lt 0 (position_or_len (λ b. b == 61) word)
    then Some (before_first (λ b. b == 61) word, after_first (λ b. b == 61) word)
    else None
