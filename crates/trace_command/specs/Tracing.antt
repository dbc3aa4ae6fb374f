-- What a traced run writes, where it writes it, and what it leaves.
use Rattle.std.specs.Prelude.{◌≡◌, ◌≢◌, ◌⊎◌, ℕ, ◌==◌, Bool, true, false, ◌||◌, ⊤, List, [], ◌∷◌, codes}
use Rattle.std.specs.Prelude.{Option, None, Some, IsSome, is_some, option_map, find, Result, Ok, Err, IsErr}
use Rattle.std.specs.Prelude.{IfOk, IfErr, OnOk}
use Rattle.std.specs.Io.Buffered.{reader_remaining}
use Rattle.std.specs.Io.KnownBytes.{Keeps, append_known}
use Rattle.clap.specs.Words.{first_value, found_of}
use Rattle.clap.specs.declared.parser.matches.ArgMatches.{ArgMatches}
use Rattle.lx_abi.specs.declared.boot.Boot.{Boot}
use Rattle.lx_abi.specs.declared.outcome.Ended.{Ended as End}
use Rattle.lx_abi.specs.declared.outcome.Outcome.{Outcome}
use Rattle.lx_abi.specs.declared.ptrace.Reply.TheVariants.{Done}
use Rattle.lx_abi.specs.declared.ptrace.Request.TheVariants.{Boot as Boot_with}
use Rattle.lx_abi.specs.declared.schedule.Event.{Event}
use Rattle.lx_abi.specs.declared.schedule.Word.{Word}
use Rattle.lx_abi.specs.declared.script.Rule.{Rule}
use Rattle.lx_abi.specs.Scripts.{choice_of}
use Rattle.lx_abi.specs.Status.{shell_status_of}
use Rattle.front_end.specs.declared.fault.Fault.{Fault}
use Rattle.pt_schedule.specs.Schedules.{worded, events_left}
use Rattle.pt_schedule.specs.declared.schedule.Schedule.{Schedule}
use Rattle.host_wire.specs.Counting.{calls_of, faults_of as faults_of_end, input_of, inner_of}
use Rattle.host_link.specs.Children.{pipe_of}
use Rattle.host_link.specs.PipeLinks.{Asks, given_of, faults_of, waits_of}
use Rattle.host_link.specs.Streams.{left_in, taken_by}
use Rattle.host_link.specs.declared.child.ChildLink.{ChildLink}
use Rattle.host_link.specs.declared.fault.LinkFault.TheVariants.{Inadmissible, Memory}
use Rattle.tr_core.specs.Settings.{options_by, first_pen}
use Rattle.tr_core.specs.States.{new_state}
use Rattle.tr_core.specs.declared.settings.Options.{Options}
use Rattle.trace_run.specs.BootedRuns.{TraceOf}
use Rattle.trace_run.specs.LocalRuns.{FailsBy}
use Rattle.trace_run.specs.Runs.{Answers, RunsWhole, calls_of as calls_of_link}
use Rattle.trace_run.specs.Writers.{Writer, PutsWhole, PutsPart}
use Rattle.trace_run.specs.declared.running.Ended.{Ended}
use Rattle.trace_run.specs.declared.running.Ended.TheVariants.{Whole}
use Rattle.trace_run.specs.declared.running.RunFault.{RunFault}
use Rattle.trace_run.specs.declared.running.RunFault.TheVariants.{Link, Output as Unwritable}
use Rattle.trace_threads.specs.ThreadRuns.{IsNotedRun}
use Rattle.trace_threads.specs.declared.noted.NotedRun.{NotedRun}
use Rattle.trace_command.specs.Faults.{IsFaultOf, IsHostFault, IsUnhosted, IsUnopened, IsUnwritable, has_ended}
use Rattle.trace_command.specs.declared.kernel.Kernel.{Kernel}
use Rattle.trace_command.specs.declared.kernel.Kernel.TheVariants.{Here, OnThreads, There}
use Rattle.trace_command.specs.declared.place.Place.{Place}
use Rattle.trace_command.specs.declared.place.Place.TheVariants.{Error, Output, File}
use Rattle.trace_words.specs.declared.plan.Plan.{Plan}
use Rattle.trace_words.specs.declared.asked.TraceOptions.{TraceOptions}
use Rattle.trace_words.specs.declared.asked.Workers.{Workers}

-- ---- the words

-- the value of an option, where it has one
abbrev pub value_of : ArgMatches → List ℕ → Option (List ℕ)
value_of words name = first_value (found_of words) name

abbrev pub asks_for_files : ArgMatches → Bool
asks_for_files words = is_some (value_of words (codes "files-out")) || is_some (value_of words (codes "files-list"))

-- what words ask for: a run that is traced so
pub record Wanted : Type 0 where
  pub words : ArgMatches
  pub options : TraceOptions

abbrev pub wanting : ArgMatches → TraceOptions → Wanted
wanting words options = record { words = words; options = options }

abbrev pub wants : Wanted → List ℕ → Option (List ℕ)
wants wanted name = value_of wanted.words name

-- its events are noted
abbrev pub is_noted : Wanted → Bool
is_noted wanted = is_some (wants wanted (codes "turns-out"))

-- the place that this value of `-o` names
abbrev pub IsPlace : Option (List ℕ) → Place → Type 0
IsPlace named Error =
    (named ≡ None) ⊎ ((named ≡ Some (codes "/dev/stderr")) ⊎ (named ≡ Some (codes "/dev/fd/2")))
IsPlace named Output = (named ≡ Some (codes "/dev/stdout")) ⊎ (named ≡ Some (codes "/dev/fd/1"))
IsPlace named (File path) =
    (named ≡ Some path.now)
    × ((path.now ≢ codes "/dev/stderr")
    × ((path.now ≢ codes "/dev/fd/2")
    × ((path.now ≢ codes "/dev/stdout") × (path.now ≢ codes "/dev/fd/1"))))

-- ---- where the kernel runs

-- what a link to a child may do, by what is known of the child's output and of its input
abbrev pub child_answers : {P I O E : Type 0} → (O → Option (List ℕ)) → (I → Option (List ℕ))
    → Answers (ChildLink P I O E)
child_answers remaining contents a q r b =
    Asks (λ e. input_of (λ out. reader_remaining (λ r. left_in remaining r) out) e)
    (λ e. taken_by contents (inner_of e)) (λ e. calls_of e) (λ e. faults_of_end e) (pipe_of a) q r (pipe_of b)

abbrev pub child_calls : {P I O E : Type 0} → (O → Option (List ℕ)) → (I → Option (List ℕ))
    → Answers (ChildLink P I O E)
child_calls remaining contents =
    calls_of_link (child_answers remaining contents) (λ l. given_of (pipe_of l)) (λ l. faults_of (pipe_of l))

-- a link to a child of which nothing was asked yet
pub record IsUnasked {P I O E : Type 0} (l : ChildLink P I O E) : Type 0 where
  pub given : given_of (pipe_of l) ≡ 0
  pub whole : faults_of (pipe_of l) ≡ 0
  pub idle : waits_of (pipe_of l) ≡ false

-- A kernel of one thread takes this boot, under these words of a schedule: it is in this process where no host is
-- named, else that host, of which nothing was asked before, has taken it.
abbrev pub TakesAlone : {P I O E : Type 0} → (O → Option (List ℕ)) → (I → Option (List ℕ)) → Option (List ℕ) → Boot → ℕ
    → List Word → Kernel P I O E → Type 0
TakesAlone remaining contents None boot limit words (Here b schedule) = (b ≡ boot) × (schedule ≡ worded words limit)
TakesAlone remaining contents None boot limit words (There link) = ⊥
TakesAlone remaining contents None boot limit words (OnThreads b workers) = ⊥
TakesAlone remaining contents (Some host) boot limit words (Here b schedule) = ⊥
TakesAlone {P} {I} {O} {E} remaining contents (Some host) boot limit words (There link) =
    (first : ChildLink P I O E)
    × (IsUnasked first × child_calls remaining contents first (Boot_with boot limit words) (Ok Done) link)
TakesAlone remaining contents (Some host) boot limit words (OnThreads b workers) = ⊥

-- the same, or one whose turns are made by threads, where these are asked for
abbrev pub Takes : {P I O E : Type 0} → (O → Option (List ℕ)) → (I → Option (List ℕ)) → Option (List ℕ)
    → Option Workers → Boot → ℕ → List Word → Kernel P I O E → Type 0
Takes remaining contents host None boot limit words kernel =
    TakesAlone remaining contents host boot limit words kernel
Takes remaining contents host (Some workers) boot limit words (Here b schedule) = ⊥
Takes remaining contents host (Some workers) boot limit words (There link) = ⊥
Takes remaining contents host (Some workers) boot limit words (OnThreads b w) = (b ≡ boot) × (w ≡ workers)

abbrev pub IsOnThreads : {P I O E : Type 0} → Kernel P I O E → Type 0
IsOnThreads (Here b schedule) = ⊥
IsOnThreads (There link) = ⊥
IsOnThreads (OnThreads b workers) = ⊤

-- ---- a run, and what it writes to a writer

-- Over a kernel in this process: what is written is told by the untraced kernel, from this boot on, and a failure is
-- one of memory or of the writer. Or memory ran out before the kernel was booted, and nothing is written.
abbrev pub TracesHere : Options → List Rule → Boot → Schedule → Result Ended RunFault → Writer → Writer → Type 0
TracesHere o script boot schedule result old new =
    (TraceOf boot schedule script o result old new × IfErr result (FailsBy (events_left schedule) new.broken))
    ⊎ ((result ≡ Err (Link Memory)) × (new ≡ old))

-- Over a kernel in a child: the tracer's requests, and the bytes that came and went.
abbrev pub TracesThere : {P I O E : Type 0} → (O → Option (List ℕ)) → (I → Option (List ℕ)) → Options → List Rule
    → ChildLink P I O E → Result Ended RunFault → Writer → Writer → Type 0
TracesThere {P} {I} {O} {E} remaining contents o script link result old new =
    (last : ChildLink P I O E)
    × RunsWhole (child_calls remaining contents) (new_state (options_by o) (choice_of script) (first_pen o)) link old
    result last new

-- one put, of these bytes, or of a first part of them where it fails
abbrev pub Puts : {A X : Type 0} → List ℕ → Result A X → Writer → Writer → Type 0
Puts bytes (Ok x) old new = PutsWhole old new bytes
Puts bytes (Err fault) old new = PutsPart old new bytes

-- the trace of a run that ended so, in one piece
abbrev pub PutsTrace : Ended → List ℕ → Result Ended RunFault → Writer → Writer → Type 0
PutsTrace ended trace (Ok result) old new = (result ≡ ended) × PutsWhole old new trace
PutsTrace ended trace (Err fault) old new = (fault ≡ Unwritable) × PutsPart old new trace

-- On threads: the run is the untraced kernel's by the journal of its host, and the events of this journal are noted,
-- if they are asked for.
abbrev pub TracesOnThreads : Options → List Rule → Boot → ℕ → Bool → Option (List Event)
    → Result Ended RunFault → Writer → Writer → Type 0
TracesOnThreads o script boot limit asked noted result old new =
    (made : NotedRun)
    × (IsNotedRun boot limit script o false asked made
    × ((noted ≡ made.events) × PutsTrace made.run.ended made.run.trace result old new))

abbrev pub Traces : {P I O E : Type 0} → (O → Option (List ℕ)) → (I → Option (List ℕ)) → Options → List Rule
    → Kernel P I O E → Bool → Option (List Event) → Result Ended RunFault → Writer → Writer → Type 0
Traces remaining contents o script (Here boot schedule) asked noted result old new =
    TracesHere o script boot schedule result old new
Traces remaining contents o script (There link) asked noted result old new =
    TracesThere remaining contents o script link result old new
Traces remaining contents o script (OnThreads boot workers) asked noted result old new =
    TracesOnThreads o script boot workers.limit asked noted result old new

-- ---- where the trace goes

-- a writer of std that was not written to before
abbrev pub unused : Option (List ℕ) → Writer
unused contents = record { contents = contents; puts = []; broken = 0 }

-- Behind a run that ended so the file holds what was written, where that is known. Or the rest of it couldn't be
-- written, and the result is the output's fault.
abbrev pub Reaches : Result Ended RunFault → Result Ended RunFault → Option (List ℕ) → Option (List ℕ) → Type 0
Reaches ended result written held =
    ((result ≡ ended) × Keeps written held)
    ⊎ ((result ≡ Err Unwritable) × ((rest : List ℕ) × ((rest ≢ []) × Keeps written (append_known held rest))))

-- to a file that is made for it
abbrev pub WritesFile : {F : Type 0} → (F → Option (List ℕ)) → (Result Ended RunFault → Writer → Writer → Type 0)
    → Result Ended RunFault → Type 0
WritesFile {F} held writes result =
    (old : F)
    × ((new : F)
    × ((ended : Result Ended RunFault)
    × ((last : Writer) × (writes ended (unused (held old)) last × Reaches ended result last.contents (held new)))))

-- standard output and standard error
pub record Outputs : Type 0 where
  pub out : Writer
  pub err : Writer

abbrev pub outputs : Writer → Writer → Outputs
outputs out err = record { out = out; err = err }

-- A run that writes so has written to this place, with this result, and nothing to the other outputs.
abbrev pub WritesTo : {F : Type 0} → (F → Option (List ℕ)) → (Result Ended RunFault → Writer → Writer → Type 0)
    → Result Ended RunFault → Place → Outputs → Outputs → Type 0
WritesTo held writes result Error old new = (new.out ≡ old.out) × writes result old.err new.err
WritesTo held writes result Output old new = (new.err ≡ old.err) × writes result old.out new.out
WritesTo held writes result (File path) old new =
    (new.out ≡ old.out) × ((new.err ≡ old.err) × WritesFile held writes result)

-- What comes of a run that ended so: its outcome, or its own fault. Where the trace goes to standard error the end of a
-- line may come before the fault, and where that can't be written it is the fault.

abbrev pub EndsLine : Place → Fault → Fault → Writer → Writer → Type 0
EndsLine Error own fault err err' =
    ((fault ≡ own) × ((err' ≡ err) ⊎ PutsWhole err err' (10 ∷ [])))
    ⊎ (IsUnwritable fault × PutsPart err err' (10 ∷ []))
EndsLine Output own fault err err' = (fault ≡ own) × (err' ≡ err)
EndsLine (File path) own fault err err' = (fault ≡ own) × (err' ≡ err)

abbrev pub Settles : Place → Result Ended RunFault → Result Outcome Fault → Writer → Writer → Type 0
Settles place ended (Ok outcome) err err' = (ended ≡ Ok (Whole outcome)) × (err' ≡ err)
Settles place ended (Err fault) err err' = (own : Fault) × (IsFaultOf ended own × EndsLine place own fault err err')

-- A run that writes so was made: it has ended, and its trace is at the place.
abbrev pub RunsTo : {F : Type 0} → (F → Option (List ℕ)) → (Result Ended RunFault → Writer → Writer → Type 0) → Place
    → Result Outcome Fault → Outputs → Outputs → Type 0
RunsTo held writes place result old new =
    (ended : Result Ended RunFault)
    × ((middle : Writer)
    × (WritesTo held writes ended place old (outputs new.out middle)
    × Settles place ended result middle new.err))

-- none was made, for such a fault, and nothing is written
abbrev pub Unmade : {A : Type 0} → (Fault → Type 0) → Result A Fault → Outputs → Outputs → Type 0
Unmade lacks (Ok x) old new = ⊥
Unmade lacks (Err fault) old new = lacks fault × ((new.out ≡ old.out) × (new.err ≡ old.err))

-- A run that needs neither a host, nor threads, nor a file is always made. The fault of another is that this host,
-- these threads (a boot that they refuse among them) or this file can't be had, or want of memory.

abbrev pub IsFile : Place → Type 0
IsFile Error = ⊥
IsFile Output = ⊥
IsFile (File path) = ⊤

abbrev pub Lacks : Option (List ℕ) → Option Workers → Type 0 → Fault → Type 0
Lacks host workers files fault =
    (IsSome host × IsUnhosted fault)
    ⊎ ((IsSome workers × (IsUnhosted fault ⊎ IsUnopened fault)) ⊎ (files × IsUnopened fault))

-- the same of a run over this kernel
abbrev pub LacksAt : {P I O E : Type 0} → Kernel P I O E → Type 0 → Fault → Type 0
LacksAt kernel files fault =
    (IsOnThreads kernel × (IsUnhosted fault ⊎ IsUnopened fault)) ⊎ (files × IsUnopened fault)

-- ---- the program

-- The run of a plan as it was asked for: over a kernel that took the boot. This is noted of its events, where they are
-- asked for.
abbrev pub RunsNoting : (P E : Type 0) → {I O : Type 0} → (O → Option (List ℕ)) → (I → Option (List ℕ)) → Wanted
    → Plan → Bool → Option (List Event) → Result Ended RunFault → Writer → Writer → Type 0
RunsNoting P E {I} {O} remaining contents wanted plan asked noted result old new =
    (kernel : Kernel P I O E)
    × (Takes remaining contents (wants wanted (codes "host")) wanted.options.workers plan.boot wanted.options.limit
    plan.turns.items kernel
    × Traces remaining contents plan.options plan.script kernel asked noted result old new)

-- they are where their file is
abbrev pub Runs : (P E : Type 0) → {I O : Type 0} → (O → Option (List ℕ)) → (I → Option (List ℕ)) → Wanted → Plan
    → Option (List Event) → Result Ended RunFault → Writer → Writer → Type 0
Runs P E remaining contents wanted plan noted result old new =
    RunsNoting P E remaining contents wanted plan (is_noted wanted) noted result old new

-- what a shell shows of the end of process 1
abbrev pub status_in : List End → Option ℕ
status_in ends = option_map (λ e. shell_status_of e.word) (find (λ e. e.pid == 1) ends)

-- The console, by one put, and the status of process 1. There is a fault where no process 1 has ended, and nothing is
-- written then, and where the console can't be.
abbrev pub PutsConsole : Outcome → Result ℕ Fault → Writer → Writer → Type 0
PutsConsole outcome (Ok status) old new =
    PutsWhole old new outcome.console × (status_in outcome.ended ≡ Some status)
PutsConsole outcome (Err fault) old new =
    ((status_in outcome.ended ≡ None) × (IsHostFault Inadmissible fault × (new ≡ old)))
    ⊎ (IsSome (status_in outcome.ended) × (IsUnwritable fault × PutsPart old new outcome.console))

-- A run with this outcome leaves that. Files that are asked for come behind it, and may fail.
abbrev pub Left : ArgMatches → Outcome → Result ℕ Fault → Writer → Writer → Type 0
Left words outcome result old new =
    PutsConsole outcome result old new
    ⊎ ((asks_for_files words ≡ true) × (IsErr result × ((status : ℕ) × PutsConsole outcome (Ok status) old new)))

-- One that isn't whole, or whose turns can't be written, leaves nothing.
abbrev pub LeavesAfter : ArgMatches → Result (Unit {0}) Fault → Result Outcome Fault → Result ℕ Fault
    → Writer → Writer → Type 0
LeavesAfter words (Err fault) made result old new = (result ≡ Err fault) × (new ≡ old)
LeavesAfter words (Ok u) (Err fault) result old new = (result ≡ Err fault) × (new ≡ old)
LeavesAfter words (Ok u) (Ok outcome) result old new = Left words outcome result old new

-- Whatever came of writing its turns: where they can't be written, which is so only where they are asked for and the
-- run has ended, that is its fault; else their file is written so.
abbrev pub Leaves : ArgMatches → Type 0 → Result Outcome Fault → Result ℕ Fault → Writer → Writer → Type 0
Leaves words file made result old new =
    (turned : Result (Unit {0}) Fault)
    × (IfErr turned
    (λ fault. IsUnwritable fault × (IsSome (value_of words (codes "turns-out")) × (has_ended made ≡ true)))
    × (LeavesAfter words turned made result old new
    × OnOk turned (has_ended made ≡ true → file)))

-- All of it: a run of which this is noted writes its trace so, then the file of its turns is written so where that is
-- asked for, and then standard output is given what it leaves.
pub record Completes {F : Type 0} (held : F → Option (List ℕ))
    (runs : Option (List Event) → Result Ended RunFault → Writer → Writer → Type 0)
    (file : Option (List Event) → Type 0) (wanted : Wanted) (place : Place)
    (result : Result ℕ Fault) (old new : Outputs) : Type 0 where
  pub made : Result Outcome Fault
  pub noted : Option (List Event)
  -- standard output before the console
  pub traced : Writer
  pub run : RunsTo held (runs noted) place made old (outputs traced new.err)
  pub leaves : Leaves wanted.words (file noted) made result traced new.out

-- Such a run, with its trace at the place that the words name, completes. Or it lacks a file, a host or threads that it
-- needs, with such a fault, and nothing is written.
abbrev pub TracesPlan : {F : Type 0} → (F → Option (List ℕ))
    → (Option (List Event) → Result Ended RunFault → Writer → Writer → Type 0) → (Option (List Event) → Type 0)
    → Wanted → Result ℕ Fault → Outputs → Outputs → Type 0
TracesPlan held runs file wanted result old new =
    (place : Place)
    × (IsPlace (wants wanted (codes "output")) place
    × (Unmade
    (Lacks (wants wanted (codes "host")) wanted.options.workers
    (IsSome (wants wanted (codes "turns-out")) ⊎ IsFile place)) result old new
    ⊎ Completes held runs file wanted place result old new))

-- The same to writers of std, by what they hold where that is known: by a run that ended so, standard output and
-- standard error are written to so, and standard output by nothing else. A status is that of this run.
abbrev pub TracesOut : {F : Type 0} → (F → Option (List ℕ))
    → (Option (List Event) → Result Ended RunFault → Writer → Writer → Type 0) → (Option (List Event) → Type 0)
    → Wanted → Result ℕ Fault → Option (List ℕ) → Option (List ℕ) → Type 0
TracesOut held runs file wanted result out out' =
    (ended : Result ℕ Fault)
    × ((err : Option (List ℕ))
    × ((last : Outputs)
    × ((last.out.contents ≡ out')
    × (IfOk result (λ status. ended ≡ Ok status)
    × TracesPlan held runs file wanted ended (outputs (unused out) (unused err)) last))))
