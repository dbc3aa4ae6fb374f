-- What is refused of a command's words on schedules and outputs, and what the fault's text begins with. Memory may run
-- out anywhere.
use Rattle.std.specs.Prelude.{◌⊎◌, ℕ, List, Option, None, Some, IsSome, codes}
use Rattle.clap.specs.declared.parser.matches.ArgMatches.{ArgMatches}
use Rattle.front_end.specs.Texts.{IsAbout}
use Rattle.front_end.specs.Values.{value_of}
use Rattle.front_end.specs.declared.fault.Fault.{Fault}
use Rattle.front_end.specs.declared.outputs.Output.{Output}
use Rattle.front_end.specs.declared.outputs.Output.TheVariants as the

-- the file of a schedule, where one is named
abbrev pub RefusesSchedule : Option (List ℕ) → Fault → Type 0
RefusesSchedule None fault = ⊥
RefusesSchedule (Some path) fault = IsAbout (codes "--turns ") fault

-- ---- what is to be written

-- the option that names it, for the parser
abbrev pub id_of : Output → List ℕ
id_of the.Trace = codes "output"
id_of the.Turns = codes "turns-out"
id_of the.Files = codes "files-list"
id_of the.Known = codes "known-out"

-- and as it is typed
abbrev pub option_of : Output → List ℕ
option_of the.Trace = codes "-o"
option_of the.Turns = codes "--turns-out"
option_of the.Files = codes "--files-list"
option_of the.Known = codes "--known-out"

abbrev pub RefusesOutput : ArgMatches → Output → Fault → Type 0
RefusesOutput words output fault = IsSome (value_of words (id_of output)) × IsAbout (option_of output) fault

-- the directory of the files that a run leaves
abbrev pub RefusesDirectory : ArgMatches → Fault → Type 0
RefusesDirectory words fault =
    IsSome (value_of words (codes "files-out")) × IsAbout (codes "--files-out ") fault

-- and their list, which is tried
abbrev pub RefusesList : ArgMatches → Fault → Type 0
RefusesList words fault = IsSome (value_of words (codes "files-list")) × IsAbout (codes "--files-list ") fault

abbrev pub RefusesOutputs : ArgMatches → Fault → Type 0
RefusesOutputs words fault =
    ((output : Output) × RefusesOutput words output fault)
    ⊎ (RefusesDirectory words fault ⊎ RefusesList words fault)
