-- What the text of a fault says.
use Rattle.std.specs.Io.KnownBytes.{Appends}
use Rattle.std.specs.Prelude.{◌≡◌, ◌++◌, ⊤, ℕ, Bool, true, false, List, Option, None, Some, option_map}
use Rattle.std.specs.Prelude.{codes, decimal, string_bytes}
use Rattle.tr_expr.specs.Faults.{number_of}
use Rattle.front_end.specs.declared.fault.Fault.{Fault}
use Rattle.front_end.specs.declared.fault.Fault.TheVariants as the

-- the fault of what a user has given, in these words; or there was no memory for them
abbrev pub Says : List ℕ → Fault → Type 0
Says text (the.Usage said) = string_bytes said ≡ text
Says text (the.Expression fault reason) = ⊥
Says text (the.Listing line kind) = ⊥
Says text (the.Host number reason) = ⊥
Says text (the.OutOfTurns reason) = ⊥
Says text (the.Output said) = ⊥
Says text the.Memory = ⊤

-- in words that begin so
abbrev pub IsAbout : List ℕ → Fault → Type 0
IsAbout start (the.Usage said) = (rest : List ℕ) × (string_bytes said ≡ start ++ rest)
IsAbout start (the.Expression fault reason) = ⊥
IsAbout start (the.Listing line kind) = ⊥
IsAbout start (the.Host number reason) = ⊥
IsAbout start (the.OutOfTurns reason) = ⊥
IsAbout start (the.Output said) = ⊥
IsAbout start the.Memory = ⊤

-- which name a file, in whatever form, and one of its lines, the first of which is 1
abbrev pub IsAboutLine : List ℕ → ℕ → Fault → Type 0
IsAboutLine start line fault =
    (file : List ℕ) × IsAbout (start ++ (file ++ (codes ": line " ++ (decimal line ++ codes ": ")))) fault

-- ---- what a program says of a fault

-- its line
abbrev pub line_of : List ℕ → Fault → List ℕ
line_of program (the.Usage said) = program ++ (codes ": " ++ string_bytes said)
line_of program (the.Expression fault reason) = program ++ (codes ": expression fault " ++ decimal (number_of fault))
line_of program (the.Listing line kind) = codes "asm: line " ++ (decimal line ++ (codes " kind " ++ decimal kind))
line_of program (the.Host number reason) = program ++ (codes ": host fault " ++ decimal number)
line_of program (the.OutOfTurns reason) = program ++ codes ": out of turns"
line_of program (the.Output said) = program ++ codes ": output fault"
line_of program the.Memory = program ++ codes ": out of memory"

-- what explains it, where the line doesn't say it
abbrev pub reason_of : Fault → Option (List ℕ)
reason_of (the.Usage said) = None
reason_of (the.Expression fault reason) = Some (string_bytes reason)
reason_of (the.Listing line kind) = None
reason_of (the.Host number reason) = Some reason.now
reason_of (the.OutOfTurns reason) = option_map string_bytes reason
reason_of (the.Output said) = Some (string_bytes said)
reason_of the.Memory = None

-- by what is known that an output had, and has: the line of the reason, if there is one
abbrev pub GivesReason : List ℕ → Option (List ℕ) → Option (List ℕ) → Option (List ℕ) → Type 0
GivesReason program None old new = new ≡ old
GivesReason program (Some reason) old new =
    Appends old new (program ++ (codes ": " ++ (reason ++ codes "\n")))

-- the fault's line, and that of its reason where it is to be explained
abbrev pub Reports : List ℕ → Fault → Bool → Option (List ℕ) → Option (List ℕ) → Type 0
Reports program fault false old new = Appends old new (line_of program fault ++ codes "\n")
Reports program fault true old new =
    (middle : Option (List ℕ))
    × (Appends old middle (line_of program fault ++ codes "\n")
    × GivesReason program (reason_of fault) middle new)
