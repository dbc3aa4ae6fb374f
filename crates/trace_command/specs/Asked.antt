-- What is written for the words.
use Rattle.std.specs.Prelude.{◌≡◌, ◌⊎◌, ℕ, List, Option, Result, Ok, Err}
use Rattle.clap.specs.declared.parser.matches.ArgMatches.{ArgMatches}
use Rattle.lx_abi.specs.declared.schedule.Event.{Event}
use Rattle.front_end.specs.CommandLines.{IsStatusWithout}
use Rattle.front_end.specs.Statuses.{IsStatusOf}
use Rattle.front_end.specs.declared.command_line.NoRun.{NoRun}
use Rattle.front_end.specs.declared.fault.Fault.{Fault}
use Rattle.trace_run.specs.Writers.{Writer}
use Rattle.trace_run.specs.declared.running.Ended.{Ended}
use Rattle.trace_run.specs.declared.running.RunFault.{RunFault}
use Rattle.trace_words.specs.Options.{asked_by, options_of}
use Rattle.trace_words.specs.OptionFaults.{IsToldBy}
use Rattle.trace_words.specs.Plans.{IsPlan, RefusesPlan}
use Rattle.trace_words.specs.declared.option_fault.OptionFault.{OptionFault}
use Rattle.trace_words.specs.declared.asked.TraceOptions.{TraceOptions}
use Rattle.trace_words.specs.declared.plan.Plan.{Plan}
use Rattle.trace_command.specs.Tracing.{TracesOut, Wanted, wanting}

-- the first option that is refused is told, or memory ran out
abbrev pub RefusesOptions : ArgMatches → Fault → Type 0
RefusesOptions words fault = (first : OptionFault) × ((options_of words ≡ Err first) × IsToldBy first fault)

-- how the run is to be traced
abbrev pub AsksFor : ArgMatches → TraceOptions → Type 0
AsksFor words options = options_of words ≡ Ok (asked_by options)

-- the words ask for no run: by an option, or they make no plan
abbrev pub RefusesWords : {F : Type 0} → (F → Option (List ℕ)) → ArgMatches → Option (List ℕ) → Fault → Type 0
RefusesWords remaining words given fault =
    RefusesOptions words fault
    ⊎ ((options : TraceOptions) × (AsksFor words options × RefusesPlan remaining words options given fault))

-- for such a fault, and nothing is written
abbrev pub Unasked : (Fault → Type 0) → Result ℕ Fault → Option (List ℕ) → Option (List ℕ) → Type 0
Unasked refuses (Ok status) out out' = ⊥
Unasked refuses (Err fault) out out' = refuses fault × (out' ≡ out)

-- What is written to standard output is that of the run that the words ask for, by their plan. Or they ask for none,
-- and nothing is written to it.
abbrev pub TracesAsked : {F G : Type 0} → (F → Option (List ℕ)) → (G → Option (List ℕ))
    → (Wanted → Plan → Option (List Event) → Result Ended RunFault → Writer → Writer → Type 0)
    → (Wanted → Plan → Option (List Event) → Type 0) → ArgMatches → Option (List ℕ) → Result ℕ Fault
    → Option (List ℕ) → Option (List ℕ) → Type 0
TracesAsked remaining held runs file words given result out out' =
    Unasked (RefusesWords remaining words given) result out out'
    ⊎ ((options : TraceOptions)
    × (AsksFor words options
    × ((plan : Plan)
    × (IsPlan remaining words options given plan
    × TracesOut held (runs (wanting words options) plan) (file (wanting words options) plan) (wanting words options)
    result out out'))))

-- ---- the exit status

-- Of a run that writes so for these words: it is that of the run, or of its fault.
abbrev pub EndsBy : (ArgMatches → Result ℕ Fault → Option (List ℕ) → Type 0) → ArgMatches → ℕ → Type 0
EndsBy traces words status =
    (result : Result ℕ Fault) × ((out : Option (List ℕ)) × (traces words result out × IsStatusOf result status))

-- Where the words ask for no run, nothing is run.
abbrev pub Exits : (ArgMatches → Result ℕ Fault → Option (List ℕ) → Type 0) → Result ArgMatches NoRun → ℕ → Type 0
Exits traces (Ok words) status = EndsBy traces words status
Exits traces (Err no_run) status = IsStatusWithout no_run status
