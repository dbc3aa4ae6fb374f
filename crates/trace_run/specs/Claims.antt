-- Transparency in four claims: of plain tracing, of replaced calls, of joined signals, and under kills. Without an end
-- by SIGKILL the trace is told by the untraced kernel's log itself.
use Rattle.std.specs.Prelude.{◌≡◌, ℕ, false, List, [], Option, None, Result, Ok, Err}
use Rattle.std.specs.Io.KnownBytes.{Appends}
use Rattle.lx_abi.specs.declared.outcome.Outcome.{Outcome}
use Rattle.lx_abi.specs.declared.schedule.Event.{Event}
use Rattle.lx_abi.specs.Scripts.{choice_of}
use Rattle.lx_model.specs.Kernel.{Script}
use Rattle.lx_model.specs.Machine.{Machine, IsMachine}
use Rattle.pt_model.specs.Calls.{IsOwn}
use Rattle.pt_model.specs.Headline.{IsTold, plain_run}
use Rattle.pt_model.specs.View.{has_kill, traced, parts}
use Rattle.host_wire.specs.Ends.{AppendsPart}
use Rattle.tr_core.specs.Settings.{options_by, layout_by, first_pen}
use Rattle.tr_core.specs.States.{new_state}
use Rattle.tr_core.specs.declared.settings.Options.{Options}
use Rattle.tr_line.specs.Lines.{rendering}
use Rattle.trace_run.specs.declared.running.Ended.{Ended}
use Rattle.trace_run.specs.declared.running.Ended.TheVariants.{Whole}
use Rattle.trace_run.specs.declared.running.RunFault.{RunFault}
use Rattle.trace_run.specs.declared.running.RunFault.TheVariants.{Trace}
use Rattle.tr_core.specs.declared.tracing.TraceFault.TheVariants.{Inadmissible}
use Rattle.trace_run.specs.Runs.{Answers, RunsWhole, replies_of}
use Rattle.trace_run.specs.Tells.{Tells, OwnUntil}
use Rattle.trace_run.specs.Writers.{Writer}

-- the bytes of the untraced kernel's log
abbrev pub log_text : {S B : Type 0} → Machine S B → (S → Outcome) → Options → Script → S → B → List Event → List ℕ
log_text m outcome o script s b events =
    rendering (layout_by o)
    (parts (options_by o) (traced o.follow (plain_run m outcome (options_by o) script s b events).log))

-- no tracee ended by SIGKILL
abbrev pub HasNoKill : {S B : Type 0} → Machine S B → (S → Outcome) → Options → Script → S → B → List Event → Type 0
HasNoKill m outcome o script s b events =
    has_kill (traced o.follow (plain_run m outcome (options_by o) script s b events).log) ≡ false

-- the trace begins the rendering of that log, and a whole run has written all of it, with that kernel's outcome
pub record TellsLog {S B : Type 0} (m : Machine S B) (outcome : S → Outcome) (o : Options) (script : Script) (s : S)
    (b : B) (events : List Event) (result : Result Ended RunFault) (old new : Option (List ℕ)) : Type 0 where
  pub begins : AppendsPart old new (log_text m outcome o script s b events)
  pub whole : (x : Outcome) → result ≡ Ok (Whole x)
      → (x ≡ outcome (plain_run m outcome (options_by o) script s b events).shared)
      × Appends old new (log_text m outcome o script s b events)
  -- and it says all that it says of a view
  pub tells : Tells m outcome o script s b events result old new

-- what a run over a link, whose replies are a host's own for these events, is said to tell under this script
abbrev pub Claim : {L S B : Type 0} → Answers L
    → ((m : Machine S B) → (S → Outcome) → Options → Script → S → B → List Event → Result Ended RunFault
    → Option (List ℕ) → Option (List ℕ) → Type 0)
    → Options → Script → Type 0
Claim {L} {S} {B} answers says o script = (link link' : L) (old new : Writer)
    (result : Result Ended RunFault)
    (w : RunsWhole answers (new_state (options_by o) script (first_pen o)) link old result link' new)
    (m : Machine S B) → IsMachine m → IsTold m → (outcome : S → Outcome) (s : S) (b : B) (events : List Event)
    → IsOwn m outcome (options_by o) script s b events (replies_of w.runs.exchanges)
    → says m outcome o script s b events result old.contents new.contents

-- told by the log, where nobody is killed
abbrev pub by_log : {S B : Type 0} (m : Machine S B) → (S → Outcome) → Options → Script → S → B → List Event
    → Result Ended RunFault → Option (List ℕ) → Option (List ℕ) → Type 0
by_log m outcome o script s b events result old new =
    HasNoKill m outcome o script s b events → TellsLog m outcome o script s b events result old new

-- where it fails by a reply that isn't admitted, what it wrote begins the rendering of that log
abbrev pub RefusedByLog : {L : Type 0} → (S B : Type 0) → Answers L → Type 0
RefusedByLog {L} S B answers = (o : Options) (script : Script)
    (link link' : L) (old new : Writer)
    (w : RunsWhole answers (new_state (options_by o) script (first_pen o)) link old (Err (Trace Inadmissible))
    link' new)
    (m : Machine S B) → IsMachine m → IsTold m → (outcome : S → Outcome) (s : S) (b : B) (events : List Event)
    → OwnUntil m outcome (options_by o) script s b events (replies_of w.runs.exchanges)
    → HasNoKill m outcome o script s b events
    → AppendsPart old.contents new.contents (log_text m outcome o script s b events)

-- no call is joined by a signal
abbrev pub JoinsNothing : Script → Type 0
JoinsNothing script = (call n : ℕ) → (script call n).signal ≡ None

-- under the empty script
abbrev pub PlainTracing : {L : Type 0} → (S B : Type 0) → Answers L → Type 0
PlainTracing S B answers = (o : Options) → Claim {S = S} {B = B} answers by_log o (choice_of [])

-- with results replaced
abbrev pub ReplacedCalls : {L : Type 0} → (S B : Type 0) → Answers L → Type 0
ReplacedCalls S B answers = (o : Options) (script : Script) → JoinsNothing script
    → Claim {S = S} {B = B} answers by_log o script

-- with signals joined too
abbrev pub JoinedSignals : {L : Type 0} → (S B : Type 0) → Answers L → Type 0
JoinedSignals S B answers = (o : Options) (script : Script) → Claim {S = S} {B = B} answers by_log o script

-- and whoever is killed: the trace is told by a view of the log
abbrev pub UnderKills : {L : Type 0} → (S B : Type 0) → Answers L → Type 0
UnderKills S B answers = (o : Options) (script : Script) → Claim {S = S} {B = B} answers Tells o script
