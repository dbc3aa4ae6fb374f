-- When a run writes what it owes: before it asks. Its last moment shows this, since a writer may fail at any put and a
-- link at any request: what had to be written by then is written however the run ends.
use Rattle.std.specs.Prelude.{◌≡◌, ◌⊎◌, ℕ, ◌+◌, Bool, true, List, [], ◌∷◌, ◌++◌, length, Some, Result}
use Rattle.std.specs.Prelude.{Err, ⊤}
use Rattle.std.specs.Io.KnownBytes.{Appends}
use Rattle.lx_abi.specs.declared.boot.Boot.{Boot}
use Rattle.lx_abi.specs.declared.outcome.Outcome.{Outcome}
use Rattle.lx_abi.specs.declared.ptrace.Ask.{Ask}
use Rattle.lx_abi.specs.declared.ptrace.Reply.{Reply}
use Rattle.lx_abi.specs.declared.ptrace.Reply.TheVariants.{Done as Agreed, Status as Status_is}
use Rattle.lx_abi.specs.declared.ptrace.Request.{Request}
use Rattle.lx_abi.specs.declared.ptrace.Request.TheVariants.{To, Wait}
use Rattle.lx_abi.specs.declared.schedule.Event.{Event}
use Rattle.lx_abi.specs.declared.script.Rule.{Rule}
use Rattle.lx_abi.specs.declared.status.Status.{Status}
use Rattle.lx_abi.specs.Scripts.{choice_of}
use Rattle.lx_abi.specs.Status.{stop_of}
use Rattle.lx_boot.specs.First.{first_shared}
use Rattle.lx_exec.specs.Programs.{booted}
use Rattle.lx_kernel.specs.Outcomes.{outcome_in}
use Rattle.lx_model.specs.Kernel.{Script}
use Rattle.lx_model.specs.Machine.{Machine, IsMachine}
use Rattle.lx_turn.specs.Linux.{linux}
use Rattle.pt_model.specs.Calls.{IsOwn}
use Rattle.pt_model.specs.Headline.{IsTold, NothingKeptBack, traced_run, plain_run}
use Rattle.pt_model.specs.Replies.{comes_to_hand, replies}
use Rattle.pt_model.specs.Requests.{esrch}
use Rattle.pt_model.specs.View.{view, traced, parts}
use Rattle.pt_model.specs.World.{first_world}
use Rattle.pt_schedule.specs.declared.schedule.Schedule.{Schedule}
use Rattle.host_link.specs.declared.fault.LinkFault.{LinkFault}
use Rattle.tr_core.specs.Settings.{options_by, layout_by, first_pen}
use Rattle.tr_core.specs.States.{State, new_state, request_of}
use Rattle.tr_core.specs.declared.settings.Options.{Options}
use Rattle.tr_line.specs.Lines.{rendering}
use Rattle.trace_run.specs.BootedRuns.{following, TraceOf}
use Rattle.trace_run.specs.declared.running.Ended.{Ended}
use Rattle.trace_run.specs.declared.running.RunFault.{RunFault}
use Rattle.trace_run.specs.declared.running.RunFault.TheVariants.{Link, Output}
use Rattle.trace_run.specs.Runs.{Answers, Ends, Runs, RunsWhole, Writes, forgets, replies_of, resumes, resumes_by}
use Rattle.trace_run.specs.Writers.{Writer}

-- By one put for each, all that these replies bring was written; whatever came later came behind it.
pub record HadWritten (s : State) (rs : List Reply) (old new : Writer) : Type 0 where
  -- the writer after those puts
  pub moment : Writer
  pub writes : Writes s rs old moment
  pub later : List ℕ
  pub behind : Appends moment.contents new.contents later
  pub puts : List ℕ
  pub counted : new.puts ≡ moment.puts ++ puts

-- A run with these exchanges, this result and this tracer in the end asked q after the first of them: it was replied
-- to, or the link failed there.
abbrev pub AsksAfter : List (Request × Reply) → Result ⊤ RunFault → State → List (Request × Reply) → Request → Type 0
AsksAfter exchanges result end before q =
    ((r : Reply) × ((after : List (Request × Reply)) × (exchanges ≡ before ++ (q, r) ∷ after)))
    ⊎ ((f : LinkFault) × ((result ≡ Err (Link f)) × (exchanges ≡ before) × (request_of end ≡ Some q)))

-- so it is of each request of a run, whatever the replies are and however it ends
abbrev pub WritesBeforeItAsks : {L : Type 0} → Answers L → Type 0
WritesBeforeItAsks {L} answers = (a b : Ends L) (result : Result ⊤ RunFault) (w : Runs answers a result b)
    (before : List (Request × Reply)) (q : Request) → AsksAfter w.exchanges result b.state before q
    → HadWritten a.state (Agreed ∷ replies_of before) a.writer b.writer

-- and where the link fails nothing was written since
abbrev pub WritesBeforeTheLinkFails : {L : Type 0} → Answers L → Type 0
WritesBeforeTheLinkFails {L} answers = (a b : Ends L) (f : LinkFault) (w : Runs answers a (Err (Link f)) b)
    → Writes a.state (Agreed ∷ replies_of w.exchanges) a.writer b.writer

-- where its writer fails it asks no more: it made one put more than it was answered requests, the failed one among them
abbrev pub StopsWithItsWriter : {L : Type 0} → Answers L → Type 0
StopsWithItsWriter {L} answers = (a b : Ends L) (w : Runs answers a (Err Output) b)
    → length b.writer.puts ≡ length a.writer.puts + length w.exchanges + 1

-- behind a request that resumes it asks Wait, or nothing more, whatever the reply was
abbrev pub WaitsOnceItResumed : {L : Type 0} → Answers L → Type 0
WaitsOnceItResumed {L} answers = (a b : Ends L) (result : Result ⊤ RunFault) (w : Runs answers a result b)
    (before : List (Request × Reply)) (q : Request) (r : Reply) (behind : Request) → resumes q ≡ true
    → AsksAfter w.exchanges result b.state (before ++ (q, r) ∷ []) behind → behind ≡ Wait

-- one of these exchanges resumed the tracee by Syscall or Listen, or found it gone
pub record IsResumed (p : ℕ) (exchanges : List (Request × Reply)) : Type 0 where
  pub before : List (Request × Reply)
  pub ask : Ask
  pub reply : Reply
  pub after : List (Request × Reply)
  pub split : exchanges ≡ before ++ (To p ask, reply) ∷ after
  pub how : ((resumes_by ask ≡ true) × (reply ≡ Agreed)) ⊎ (reply ≡ esrch)

-- between a status that is no end and the next Wait its tracee was resumed, or found gone
abbrev pub ResumesBeforeItWaits : {L : Type 0} → Answers L → Type 0
ResumesBeforeItWaits {L} answers = (a b : Ends L) (result : Result ⊤ RunFault) (w : Runs answers a result b)
    (before between : List (Request × Reply)) (p : ℕ) (status : Status)
    → AsksAfter w.exchanges result b.state (before ++ (Wait, Status_is p status) ∷ between) Wait
    → comes_to_hand p (stop_of status.word) ≡ Some p → IsResumed p between

-- What a run over a host's own replies has written when it asks Wait, after these exchanges: the rendering of what is
-- behind the statuses that were taken. The rest of the view is behind reports that Wait has not told of.
pub record WroteByWait {S B : Type 0} (m : Machine S B) (outcome : S → Outcome) (o : Options) (script : Script) (s : S)
    (b : B) (events : List Event) (exchanges : List (Request × Reply)) (old new : Writer) : Type 0 where
  -- the events that gave these replies
  pub used : List Event
  pub unused : List Event
  pub split : events ≡ used ++ unused
  pub replied : replies m outcome (options_by o) script (first_world s b) used ≡ replies_of exchanges
  pub lost : ℕ → Bool
  pub kept : NothingKeptBack (options_by o) (traced_run m outcome (options_by o) script s b used).host.queue
      (traced_run m outcome (options_by o) script s b used).printed
      (view lost (traced o.follow (plain_run m outcome (options_by o) script s b used).log))
  pub had : HadWritten (new_state (options_by o) script (first_pen o)) (Agreed ∷ replies_of exchanges) old new
  pub written : Appends old.contents had.moment.contents (rendering (layout_by o) (parts (options_by o) kept.past))

abbrev pub WritesBeforeItWaits : {L : Type 0} → (S B : Type 0) → Answers L → Type 0
WritesBeforeItWaits {L} S B answers = (o : Options) (script : Script)
    (link link' : L) (old new : Writer) (result : Result Ended RunFault)
    (w : RunsWhole answers (new_state (options_by o) script (first_pen o)) link old result link' new)
    (m : Machine S B) → IsMachine m → IsTold m → (outcome : S → Outcome) (s : S) (b : B) (events : List Event)
    → IsOwn m outcome (options_by o) script s b events (replies_of w.runs.exchanges)
    → (before : List (Request × Reply)) → AsksAfter w.runs.exchanges (forgets result) w.state before Wait
    → WroteByWait m outcome o script s b events before old new

-- a run in one process, from its boot on
abbrev pub TracesWriteBeforeTheyWait : Type 0
TracesWriteBeforeTheyWait = (boot : Boot) (schedule : Schedule) (script : List Rule) (options : Options)
    (result : Result Ended RunFault) (old new : Writer) (t : TraceOf boot schedule script options result old new)
    (before : List (Request × Reply)) → AsksAfter t.ran.runs.exchanges (forgets result) t.ran.state before Wait
    → WroteByWait linux outcome_in (following options boot.follow) (choice_of script)
    (first_shared boot.limits boot.files boot.input) (booted boot.argv boot.env) t.events before old new
