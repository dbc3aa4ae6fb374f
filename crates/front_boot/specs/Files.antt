-- The guest's files.
use Rattle.std.specs.Prelude.{◌≡◌, ⊤, ℕ, ◌-◌, ◌==◌, min, List, [], ◌∷◌, ◌++◌, length, Option}
use Rattle.std.specs.List.{before_first}
use Rattle.lx_abi.specs.declared.boot.GuestFile.{GuestFile}
use Rattle.front_end.specs.Reading.{IsFirstOfFile, past}

-- the file of a word GUEST=PATH, of which so many bytes may be read, and one more
abbrev pub IsFileOf : {F : Type 0} → (F → Option (List ℕ)) → ℕ → List ℕ → GuestFile → Type 0
IsFileOf remaining most word file =
    (file.path ≡ before_first (λ b. b == 61) word) × IsFirstOfFile remaining (past most) file.content

-- bytes that are left behind a file
abbrev pub left_behind : ℕ → GuestFile → ℕ
left_behind left file = left - length file.content

-- the files of the words, of which so many bytes may be read, and 16 MiB of each
abbrev pub AreFilesOf : {F : Type 0} → (F → Option (List ℕ)) → ℕ → List (List ℕ) → List GuestFile → Type 0
AreFilesOf remaining left [] [] = ⊤
AreFilesOf remaining left [] (file ∷ files) = ⊥
AreFilesOf remaining left (word ∷ words) [] = ⊥
AreFilesOf remaining left (word ∷ words) (file ∷ files) =
    IsFileOf remaining (min left 16777216) word file
    × AreFilesOf remaining (left_behind left file) words files

abbrev pub left_over : ℕ → List GuestFile → ℕ
left_over left [] = left
left_over left (file ∷ files) = left_over (left_behind left file) files

-- the file of one more word
abbrev pub Adds : {F : Type 0} → (F → Option (List ℕ)) → List ℕ → ℕ → ℕ → List GuestFile → List GuestFile → Type 0
Adds remaining word left left' files files' =
    (file : GuestFile)
    × (IsFileOf remaining (min left 16777216) word file
    × ((left' ≡ left_behind left file) × (files' ≡ files ++ file ∷ [])))

-- these behind others
abbrev pub StartWith : List GuestFile → List GuestFile → Type 0
StartWith files first = (more : List GuestFile) × (files ≡ first ++ more)

abbrev pub NoneBehind : List (List ℕ) → List GuestFile → List GuestFile → Type 0
NoneBehind [] files named = files ≡ named
NoneBehind (directory ∷ directories) files named = ⊤

-- those of words GUEST=PATH, and behind them what the words GUEST=DIR lead to
abbrev pub AreFiles : {F : Type 0} → (F → Option (List ℕ)) → List (List ℕ) → List (List ℕ) → List GuestFile → Type 0
AreFiles remaining words directories files =
    (named : List GuestFile)
    × (AreFilesOf remaining 67108864 words named × (StartWith files named × NoneBehind directories files named))
