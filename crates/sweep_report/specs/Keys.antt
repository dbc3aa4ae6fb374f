-- A finding in a line of its own.
use Rattle.std.specs.Prelude.{◌≡◌, ℕ, List, ◌++◌, map, codes}
use Rattle.std.specs.Char.{to_ascii_uppercase}
use Rattle.sweep_rows.specs.Summary.{name_of}
use Rattle.sweep_rows.specs.declared.verdicts.Verdict.{Verdict}
use Rattle.sweep_words.specs.Known.{IsLike}

-- three fields, with a space between them
abbrev pub fields : List ℕ → List ℕ → List ℕ → List ℕ
fields call function object = (((call ++ codes " ") ++ function) ++ codes " ") ++ object

-- the verdict's name in capitals, a space, and this
abbrev pub marked : Verdict → List ℕ → List ℕ
marked v text = (map to_ascii_uppercase (name_of v) ++ codes " ") ++ text

-- .. the call, the function that makes it, and what the call is for
abbrev pub IsKey : Verdict → List ℕ → Type 0
IsKey v key =
    (call : List ℕ) × (function : List ℕ) × (object : List ℕ) × (key ≡ marked v (fields call function object))

-- .. as older lines have it, the place of the call alone
abbrev pub IsOlder : Verdict → List ℕ → Type 0
IsOlder v older = (site : List ℕ) × (older ≡ marked v site)

-- ---- the law: a line is like itself, so a finding that was written as known is known

abbrev pub LinesAreKnown : Type 0
LinesAreKnown = (line : List ℕ) → IsLike line line
