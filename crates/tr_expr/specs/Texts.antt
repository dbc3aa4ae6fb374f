-- Texts that are cut at a mark.
use Rattle.std.specs.Prelude.{ℕ, List, [], ◌∷◌, Option, Some, None, Bool, if◌then◌else◌, nat_lt, ◌==◌, length}
use Rattle.std.specs.List.{before_first, after_first, position_or_len}

-- what follows the mark in a text that begins with it
abbrev pub after : ℕ → List ℕ → Option (List ℕ)
after mark [] = None
after mark (b ∷ bs) = if b == mark then Some bs else None

-- the mark stands in the text
abbrev pub has_mark : ℕ → List ℕ → Bool
has_mark mark text = nat_lt (position_or_len (λ b. b == mark) text) (length text)

-- what stands before the first mark, and after it
abbrev pub before_mark : ℕ → List ℕ → List ℕ
before_mark mark text = before_first (λ b. b == mark) text

abbrev pub after_mark : ℕ → List ℕ → List ℕ
after_mark mark text = after_first (λ b. b == mark) text
