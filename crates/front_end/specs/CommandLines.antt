-- What the words of a program come to, and what it says where they ask for no run.
use Rattle.std.specs.Io.KnownBytes.{Appends}
use Rattle.std.specs.Prelude.{◌≡◌, ◌≢◌, ◌⊎◌, ⊤, ℕ, Bool, true, List, Option, Result, Ok, Err, string_bytes}
use Rattle.clap.specs.Values.{kind_of}
use Rattle.clap.specs.declared.error.Error.{Error}
use Rattle.clap.specs.declared.error.kind.ErrorKind.TheVariants.{DisplayHelp, DisplayVersion, OutOfMemory}
use Rattle.clap.specs.declared.parser.matches.ArgMatches.{ArgMatches}
use Rattle.front_end.specs.Statuses.{is_output_or_memory, status_of}
use Rattle.front_end.specs.Texts.{Reports}
use Rattle.front_end.specs.declared.command_line.NoRun.{NoRun}
use Rattle.front_end.specs.declared.command_line.NoRun.TheVariants as the
use Rattle.front_end.specs.declared.fault.Fault.{Fault}
use Rattle.front_end.specs.declared.fault.Fault.TheVariants.{Memory, Usage}

-- ---- what they come to, by what the parser gives of them

-- it finds a fault: it gives neither the help nor the version
abbrev pub FindsFault : Error → Type 0
FindsFault error = (kind_of error ≢ DisplayHelp) × (kind_of error ≢ DisplayVersion)

-- a text is shown where it finds no fault, and the words are refused where it finds one in them; memory may run out
abbrev pub StopsBy : Error → NoRun → Type 0
StopsBy error (the.Help text) = ¬ (FindsFault error)
StopsBy error (the.Refused reason) = FindsFault error × (kind_of error ≢ OutOfMemory)
StopsBy error the.Memory = ⊤

-- its matches, if it gives them
abbrev pub ComesTo : Result ArgMatches Error → Result ArgMatches NoRun → Type 0
ComesTo (Ok given) (Ok matches) = matches ≡ given
ComesTo (Ok given) (Err no_run) = ⊥
ComesTo (Err error) (Ok matches) = ⊥
ComesTo (Err error) (Err no_run) = StopsBy error no_run

-- ---- what is said, by what is known that the outputs had, and have

-- The fault is told, and the status is its own; or it couldn't be told, and that is 3.
abbrev pub Tells : List ℕ → Fault → Bool → Option (List ℕ) → Option (List ℕ) → ℕ → Type 0
Tells program fault explained err err' status =
    ((status ≡ status_of fault) × Reports program fault explained err err') ⊎ (status ≡ 3)

-- the same, with its reason or without
abbrev pub TellsSo : List ℕ → Fault → Option (List ℕ) → Option (List ℕ) → ℕ → Type 0
TellsSo program fault err err' status = (explained : Bool) × Tells program fault explained err err' status

-- of a command that ended so: its own status, and nothing is said
abbrev pub Settles : List ℕ → Result ℕ Fault → Bool → Option (List ℕ) → Option (List ℕ) → ℕ → Type 0
Settles program (Ok own) explained err err' status = (status ≡ own) × (err' ≡ err)
Settles program (Err fault) explained err err' status = Tells program fault explained err err' status

-- All of the text is written and nothing else is said; or it couldn't be, and that is told.
abbrev pub Prints : List ℕ → List ℕ → Option (List ℕ) → Option (List ℕ) → Option (List ℕ) → Option (List ℕ) → ℕ
    → Type 0
Prints program text out out' err err' status =
    ((status ≡ 0) × (Appends out out' text × (err' ≡ err)))
    ⊎ ((fault : Fault) × ((is_output_or_memory fault ≡ true) × TellsSo program fault err err' status))

-- the text that is asked for, or why the words are refused
abbrev pub Answers : List ℕ → NoRun → Option (List ℕ) → Option (List ℕ) → Option (List ℕ) → Option (List ℕ) → ℕ
    → Type 0
Answers program (the.Help text) out out' err err' status = Prints program (string_bytes text) out out' err err' status
Answers program (the.Refused reason) out out' err err' status =
    TellsSo program (Usage reason) err err' status × (out' ≡ out)
Answers program the.Memory out out' err err' status = TellsSo program Memory err err' status × (out' ≡ out)

-- and the status: 0 where the text is written, 2 where the words are refused, and else 3
abbrev pub IsStatusWithout : NoRun → ℕ → Type 0
IsStatusWithout (the.Help text) status = (status ≡ 0) ⊎ (status ≡ 3)
IsStatusWithout (the.Refused reason) status = (status ≡ 2) ⊎ (status ≡ 3)
IsStatusWithout the.Memory status = status ≡ 3
