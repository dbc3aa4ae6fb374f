-- The runs that a file names, a line each, and what is refused of it.
use Rattle.std.specs.Prelude.{◌≡◌, ◌≢◌, ◌⊎◌, ℕ, ◌==◌, Bool, true, false, List, [], ◌∷◌, Option}
use Rattle.std.specs.Prelude.{Some, None, IsSome, codes}
use Rattle.std.specs.Str.{trim}
use Rattle.clap.specs.declared.parser.matches.ArgMatches.{ArgMatches}
use Rattle.front_end.specs.Expressions.{AreExpressions}
use Rattle.front_end.specs.Texts.{IsAbout, IsAboutLine, Says}
use Rattle.front_end.specs.Values.{value_of}
use Rattle.front_end.specs.declared.fault.Fault.{Fault}
use Rattle.front_end.specs.declared.fault.Fault.TheVariants.{Memory}
use Rattle.sweep_words.specs.Shown.{named_run}
use Rattle.sweep_words.specs.declared.named.NamedLine.{NamedLine}
use Rattle.sweep_words.specs.declared.show.NamedRun.{NamedRun}

-- what a line has is nothing, or begins with a # (character 35)
abbrev pub is_remark : List ℕ → Bool
is_remark [] = true
is_remark (c ∷ text) = c == 35

-- ---- a line

-- the run that it names, if it names one
abbrev pub run_at : ℕ → Option NamedRun → List NamedLine
run_at line None = []
run_at line (Some run) = record { line = line; run = run } ∷ []

abbrev pub named_if : Bool → ℕ → List ℕ → List NamedLine
named_if true line text = []
named_if false line text = run_at line (named_run text)

abbrev pub named_at : ℕ → List ℕ → List NamedLine
named_at line text = named_if (is_remark (trim text)) line (trim text)

-- it is no remark and names no run
abbrev pub RefusesLine : ℕ → List ℕ → Fault → Type 0
RefusesLine line text fault =
    (fault ≡ Memory)
    ⊎ ((is_remark (trim text) ≡ false)
    × ((named_run (trim text) ≡ None) × IsAboutLine (codes "--runs ") line fault))

-- ---- the file

-- words that name calls or errors stand beside it
abbrev pub RefusesBeside : ArgMatches → Fault → Type 0
RefusesBeside words fault =
    (fault ≡ Memory)
    ⊎ (((texts : List (List ℕ))
    × (AreExpressions words texts
    × ((texts ≢ []) × Says (codes "--runs excludes -e: the file names the runs") fault)))
    ⊎ (IsSome (value_of words (codes "errors"))
    × Says (codes "--runs excludes --errors: the file names the runs") fault))

-- where one is named: such words, the file, or one of its lines
abbrev pub RefusesNamed : ArgMatches → Fault → Type 0
RefusesNamed words fault =
    IsSome (value_of words (codes "runs"))
    × (RefusesBeside words fault
    ⊎ (IsAbout (codes "--runs ") fault
    ⊎ ((line : ℕ) × ((text : List ℕ) × RefusesLine line text fault))))
