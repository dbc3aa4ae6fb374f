-- A run over a host in memory that a schedule feeds, by the untraced kernel.
use Rattle.std.specs.Prelude.{◌≡◌, ◌⊎◌, ℕ, ◌≤◌, ◌<◌, Bool, true, List, [], ◌∷◌, ◌++◌, Option, Some, None, Ok}
use Rattle.lx_abi.specs.declared.outcome.Outcome.{Outcome}
use Rattle.lx_abi.specs.declared.ptrace.Reply.{Reply}
use Rattle.lx_abi.specs.declared.ptrace.Request.{Request}
use Rattle.lx_abi.specs.declared.schedule.Event.{Event}
use Rattle.lx_model.specs.Kernel.{Script, traces}
use Rattle.lx_model.specs.Machine.{Machine, IsMachine}
use Rattle.pt_kernel.specs.Noted.{noting}
use Rattle.pt_model.specs.Attending.{called, Schedules}
use Rattle.pt_model.specs.Calls.{CallsOver, attends}
use Rattle.pt_model.specs.Headline.{IsTold, traced_run, plain_run}
use Rattle.pt_model.specs.Parts as parts
use Rattle.pt_model.specs.Ptrace.{Host, is_there}
use Rattle.pt_model.specs.Tracer.{Over, request}
use Rattle.pt_model.specs.View.{has_exit}
use Rattle.pt_model.specs.World.{World, happens, effective, first_world}
use Rattle.tr_core.specs.Settings.{options_by, first_pen}
use Rattle.tr_core.specs.States.{new_state}
use Rattle.tr_core.specs.declared.settings.Options.{Options}
use Rattle.trace_run.specs.declared.running.Ended.{Ended}
use Rattle.trace_run.specs.declared.running.Ended.TheVariants.{Whole, OutOfTurns}
use Rattle.trace_run.specs.Runs.{Answers, RunsWhole}
use Rattle.trace_run.specs.Tells.{view_text, shown_text}
use Rattle.trace_run.specs.Writers.{Writer}

-- What a link in memory is: a host, a schedule that feeds it, the turns that it gave to the kernel, and the events that
-- it noted
pub record InMemory (L X S B : Type 0) : Type 0 where
  pub host : L → Host S B
  pub schedule : L → X
  pub turns : L → List ℕ
  pub noted : L → Option (List Event)

-- the schedule gave these events until the request was answered, or it ended and the answer is OutOfTurns
pub record CallServed {L X S B : Type 0} (i : InMemory L X S B) (choose : Schedules X S B) (m : Machine S B)
    (outcome : S → Outcome) (a : L) (q : Request) (r : Reply) (b : L) : Type 0 where
  pub fed : List Event
  -- the schedule after them
  pub left : X
  pub call : CallsOver choose m outcome (i.schedule a) (i.host a) q fed r left (i.host b)
  pub turned : i.turns b ≡ i.turns a ++ (called m outcome (i.host a) q fed).turns
  pub noted : i.noted b ≡ noting (i.noted a) fed
  pub goes_on : is_there (called m outcome (i.host a) q fed).reply ≡ true → i.schedule b ≡ left

abbrev pub ServesCalls : {L X S B : Type 0} → InMemory L X S B → Schedules X S B → Machine S B → (S → Outcome)
    → Answers L → Type 0
ServesCalls {L} i choose m outcome answers = (a : L) (q : Request) (r : Reply) (b : L) → answers a q (Ok r) b
    → CallServed i choose m outcome a q r b

-- a call of a link that is sound is served so, and the link that answered is sound
pub record SoundCall {L X S B : Type 0} (sound : L → Type 0) (i : InMemory L X S B) (choose : Schedules X S B)
    (m : Machine S B) (outcome : S → Outcome) (a : L) (q : Request) (r : Reply) (b : L) : Type 0 where
  pub served : CallServed i choose m outcome a q r b
  pub stays : is_there (called m outcome (i.host a) q served.fed).reply ≡ true → sound b

-- these events are all that the schedule gives to a world, until nothing is asked or it has ended
abbrev pub Feeds : {X S B : Type 0} → Schedules X S B → Machine S B → (S → Outcome) → parts.Options → Script → X
    → World S B → List Event → Type 0
Feeds choose m outcome o script x w [] = (request o w.tracer.focus ≡ None) ⊎ (choose x (attends o w) ≡ None)
Feeds {X} choose m outcome o script x w (e ∷ es) =
    (y : X) × ((is_there (request o w.tracer.focus) ≡ true)
    × (choose x (attends o w) ≡ Some (e, y))
    × Feeds choose m outcome o script y (happens m outcome o script w e) es)

-- what a whole run over it says of the untraced kernel: trace, outcome and effective turns
pub record LocalRun {X S B : Type 0} (choose : Schedules X S B) (m : Machine S B) (outcome : S → Outcome)
    (o : Options) (script : Script) (x : X) (s : S) (b : B) (ended : Ended) (trace : List ℕ) (left : Outcome)
    (turns : List ℕ) : Type 0 where
  -- the events that the schedule gave
  pub events : List Event
  pub given : Feeds choose m outcome (options_by o) script x (first_world s b) events
  -- the effective turns are the world's, and the outcome that of the untraced kernel by these turns
  pub turned : turns ≡ effective m outcome (options_by o) script (first_world s b) events
  pub same_outcome : left ≡ outcome (plain_run m outcome (options_by o) script s b events).shared
  -- the trace begins the rendering of a view of that kernel's log
  pub lost : ℕ → Bool
  pub later : List ℕ
  pub begins : trace ++ later ≡ view_text m outcome o script s b events lost
  -- nothing is kept back, out of turns too: it is all that the world has shown
  pub shown : trace ≡ shown_text m outcome o script s b events
  -- whole: the trace is all of it, and every tracee has logged its end
  pub whole : (y : Outcome) → ended ≡ Whole y → (y ≡ left) × (later ≡ [])
      × ((q : ℕ) → 1 ≤ q → q < (plain_run m outcome (options_by o) script s b events).child
      → traces o.follow q ≡ true → has_exit q (plain_run m outcome (options_by o) script s b events).log ≡ true)
  -- with what the host replied to Outcome
  pub told : (y : Outcome) → ended ≡ Whole y
      → (traced_run m outcome (options_by o) script s b events).tracer.focus ≡ Over y
  -- out of turns: the schedule ended before the outcome was answered
  pub out_of_turns : ended ≡ OutOfTurns
      → is_there (request (options_by o) (traced_run m outcome (options_by o) script s b events).tracer.focus) ≡ true

-- for every run that ends without a fault, over a link that serves by a host in memory from its beginning
unfoldable pub LocalRunsTell : {L : Type 0} → (X S B : Type 0) → Answers L → Type 0
LocalRunsTell {L} X S B answers = (o : Options) (script : Script)
    (link link' : L) (old new : Writer) (trace : List ℕ) → old.contents ≡ Some [] → new.contents ≡ Some trace
    → (ended : Ended)
    (w : RunsWhole answers (new_state (options_by o) script (first_pen o)) link old (Ok ended) link' new)
    (i : InMemory L X S B) (choose : Schedules X S B) (m : Machine S B) → IsMachine m → IsTold m
    → (outcome : S → Outcome) (s : S) (b : B)
    → ServesCalls i choose m outcome answers
    → i.host link ≡ (first_world s b).host → i.turns link ≡ []
    → LocalRun choose m outcome o script (i.schedule link) s b ended trace (outcome (i.host link').shared)
    (i.turns link')
