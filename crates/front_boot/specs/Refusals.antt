-- What is refused of a command's words, of its files and of its input, and what the fault's text begins with. Of
-- several the first in this order is told; and memory may run out anywhere.
use Rattle.std.specs.Prelude.{◌≡◌, ◌⊎◌, ℕ, true, false, List, Option, IsSome, Result, Ok, Err, codes}
use Rattle.clap.specs.declared.parser.matches.ArgMatches.{ArgMatches}
use Rattle.lx_abi.specs.declared.boot.Boot.{Boot}
use Rattle.lx_abi.specs.declared.boot.GuestFile.{GuestFile}
use Rattle.lx_abi.specs.declared.schedule.Word.{Word}
use Rattle.lx_boot.specs.Boots.{fault_of}
use Rattle.front_end.specs.Refusals.{RefusesOutputs, RefusesSchedule}
use Rattle.front_end.specs.Schedules.{IsSchedule}
use Rattle.front_end.specs.Texts.{IsAbout}
use Rattle.front_end.specs.Values.{value_of}
use Rattle.front_end.specs.declared.fault.Fault.{Fault}
use Rattle.front_end.specs.declared.fault.Fault.TheVariants.{Memory}
use Rattle.front_boot.specs.Boots.{AsksBoot, Words}
use Rattle.front_boot.specs.Environment.{are_variables}
use Rattle.front_boot.specs.Files.{AreFiles}

abbrev pub RefusesVariables : List (List ℕ) → Fault → Type 0
RefusesVariables words fault =
    IsAbout (codes "-E ") fault × ((fault ≡ Memory) ⊎ (are_variables words ≡ false))

abbrev pub RefusesFiles : Fault → Type 0
RefusesFiles fault = IsAbout (codes "--file ") fault ⊎ IsAbout (codes "--dir ") fault

-- the variables, then the files, then the input
abbrev pub RefusesParts : {F : Type 0} → (F → Option (List ℕ)) → Words → Fault → Type 0
RefusesParts remaining words fault =
    RefusesVariables words.environment fault
    ⊎ ((are_variables words.environment ≡ true)
    × (RefusesFiles fault
    ⊎ ((files : List GuestFile)
    × (AreFiles remaining words.files words.directories files × IsAbout (codes "standard input") fault))))

-- what these words and this input make: a boot, or the first fault of its parts
abbrev pub MakesBoot : {F : Type 0} → (F → Option (List ℕ)) → Words → Option (List ℕ) → Result Boot Fault → Type 0
MakesBoot remaining words given (Ok boot) = AsksBoot remaining words given boot
MakesBoot remaining words given (Err fault) = RefusesParts remaining words fault

-- the boot has a fault
abbrev pub RefusesBoot : Boot → Fault → Type 0
RefusesBoot boot fault = IsSome (fault_of boot) × IsAbout (codes "boot fault ") fault

-- and then the boot that these make
abbrev pub RefusesAsked : {F : Type 0} → (F → Option (List ℕ)) → Words → Option (List ℕ) → Fault → Type 0
RefusesAsked remaining words given fault =
    RefusesParts remaining words fault
    ⊎ ((boot : Boot) × (AsksBoot remaining words given boot × RefusesBoot boot fault))

-- ---- together: the schedule, then what is to be written, then the boot

abbrev pub RefusesRun : {F : Type 0} → (F → Option (List ℕ)) → ArgMatches → Words → Option (List ℕ) → Fault → Type 0
RefusesRun remaining words asked given fault =
    RefusesSchedule (value_of words (codes "turns")) fault
    ⊎ ((turns : List Word)
    × (IsSchedule remaining (value_of words (codes "turns")) turns
    × (RefusesOutputs words fault ⊎ RefusesAsked remaining asked given fault)))
