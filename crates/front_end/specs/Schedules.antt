-- The schedule of a file.
use Rattle.std.specs.Prelude.{◌≡◌, ℕ, List, [], Option, Some, None}
use Rattle.lx_abi.specs.Words.{words_of}
use Rattle.lx_abi.specs.declared.schedule.Word.{Word}
use Rattle.front_end.specs.Reading.{IsTextOfFile}

-- its words, or none where no file is named
abbrev pub IsSchedule : {F : Type 0} → (F → Option (List ℕ)) → Option (List ℕ) → List Word → Type 0
IsSchedule remaining None turns = turns ≡ []
IsSchedule remaining (Some path) turns =
    (text : List ℕ) × (IsTextOfFile remaining 67108864 text × (words_of text ≡ Some turns))
