-- What a log of calls has printed.
use Rattle.std.specs.Prelude.{◌≡◌, ℕ, List, [], ◌∷◌, ◌++◌, Option, Some, None}
use Rattle.std.specs.List.{flat_map}
use Rattle.std.specs.Io.KnownBytes.{append_known}
use Rattle.lx_abi.specs.declared.log.Item.{Item}
use Rattle.plain_log.specs.Lines.{line_of}

-- the text of items, a line each
abbrev pub text_of : List Item → List ℕ
text_of items = flat_map line_of items

-- what the first of some writers holds, where that is known
abbrev pub first_contents : {W : Type 0} → (W → Option (List ℕ)) → List W → Option (List ℕ)
first_contents contents [] = None
first_contents contents (w ∷ ws) = contents w

-- a writer of which it was known what it had has the text of these items behind that, but for bytes that are held back
abbrev pub HasPrinted : Option (List ℕ) → List Item → Option (List ℕ) → List ℕ → Type 0
HasPrinted began items has held =
    (before : List ℕ) → began ≡ Some before → append_known has held ≡ Some (before ++ text_of items)
