-- Transparency: a traced run does what the untraced kernel does under the script, and tells of it.
use Rattle.std.specs.Prelude.{◌≡◌, ℕ, ◌≤◌, ◌<◌, Bool, true, List, ◌++◌, map, Some, None, length}
use Rattle.lx_abi.specs.declared.log.Call.{Call}
use Rattle.lx_abi.specs.declared.log.Cause.{Cause}
use Rattle.lx_abi.specs.declared.outcome.Outcome.{Outcome}
use Rattle.lx_abi.specs.declared.schedule.Event.{Event}
use Rattle.lx_abi.specs.declared.signal.Signal.{Signal}
use Rattle.lx_abi.specs.Calls.{has_effects}
use Rattle.lx_abi.specs.Effects.{forks, execs, exits}
use Rattle.lx_abi.specs.Log.{Noted}
use Rattle.lx_abi.specs.Signals.{is_signal, is_stop}
use Rattle.lx_model.specs.Machine.{Machine, IsMachine, Execs, Bears, Ends, Stops, Kills}
use Rattle.lx_model.specs.Kernel.{Script, traces, Kernel, kernel_run, first_kernel}
use Rattle.pt_model.specs.Ptrace.{Report}
use Rattle.pt_model.specs.Requests.{may_peek}
use Rattle.pt_model.specs.Admissible.{is_exit_word}
use Rattle.pt_model.specs.Parts.{Half, Texts, Options, Part}
use Rattle.pt_model.specs.Tracer.{Focus, Booting, Waiting, Serving, Asking_outcome, Over, Turns_over, Faulted}
use Rattle.pt_model.specs.World.{World, world_run, effective, first_world}
use Rattle.pt_model.specs.View.{has_exit, view, traced, most_reads, parts, Due, report_of, items_in}

-- what a tracer is told of calls fits their numbers (wait(2), ptrace(2)): children come of a call that forks (clone),
-- new programs of one that executes a program (execve), exit codes of one that ends its process (exit, exit_group),
-- other ends of a signal, and group stops of a stop signal; no read of a memory gives more bytes than were asked for
pub record IsTold {S B : Type 0} (m : Machine S B) : Type 0 where
  pub by_clone : (s t : S) (child p : ℕ) (c : Call) (b d born : B) →
      m.call s child p c b ≡ Bears t d born → has_effects c.number forks ≡ true
  pub by_execve : (s t : S) (child p : ℕ) (c : Call) (b d : B) →
      m.call s child p c b ≡ Execs t d → has_effects c.number execs ≡ true
  pub by_exit : (s : S) (child p : ℕ) (c : Call) (b : B) (word : ℕ) → m.call s child p c b ≡ Ends word →
      (has_effects c.number exits ≡ true) × (is_exit_word word ≡ true)
  pub by_signal : (s : S) (p : ℕ) (signal : Signal) (cause : Cause) (b : B) (word : ℕ) →
      m.take s p signal cause b ≡ Kills word → is_signal word ≡ true
  pub by_stop : (s : S) (p : ℕ) (signal : Signal) (cause : Cause) (b : B) →
      m.take s p signal cause b ≡ Stops → is_stop signal.number ≡ true
  pub peeks : (b : B) (address most : ℕ) → length (m.peek b address most) ≤ most

-- each read is one that is answered, and a text is whole after so many, whatever was read
pub record IsTexts (t : Texts) : Type 0 where
  pub stops : (half : Half) (got : List (List ℕ)) → most_reads ≤ length got → t.wants half got ≡ None
  pub fits : (half : Half) (got : List (List ℕ)) (w : ℕ × ℕ) → t.wants half got ≡ Some w → may_peek w.1 ≡ true

-- what is shown begins a view's parts, and is all of them once no tracee is left
pub record TellsView (printed view : List Part) (over : Type 0) : Type 0 where
  pub later : List Part
  pub begins : printed ++ later ≡ view
  pub whole : over → printed ≡ view

-- nothing is kept back: what isn't shown is behind the reports that Wait has not told of
pub record NothingKeptBack (o : Options) (queue : List Report) (printed : List Part) (view : List Noted) : Type 0 where
  -- what is behind the statuses that were taken, and behind the reports
  pub past : List Noted
  pub reported : List Due
  pub waiting : queue ≡ map report_of reported
  pub whole : past ++ items_in reported ≡ view
  pub shown : printed ≡ parts o past

-- Wait was answered ECHILD
abbrev pub IsPast : Focus → Type 0
IsPast Booting = ⊥
IsPast Waiting = ⊥
IsPast (Serving p place) = ⊥
IsPast Asking_outcome = Unit {0}
IsPast (Over x) = Unit {0}
IsPast Turns_over = ⊥
IsPast Faulted = ⊥

-- the run of the world
abbrev pub traced_run : {S B : Type 0} → Machine S B → (S → Outcome) → Options → Script → S → B → List Event → World S B
traced_run m outcome o script s b events = world_run m outcome o script (first_world s b) events

-- the untraced kernel's, of the same effective turns
abbrev pub plain_run : {S B : Type 0} → Machine S B → (S → Outcome) → Options → Script → S → B → List Event → Kernel S B
plain_run m outcome o script s b events =
    kernel_run m script o.follow (first_kernel s b) (effective m outcome o script (first_world s b) events)

-- what is claimed of a world and the plain kernel of its effective turns, at every moment
pub record Headline {S B : Type 0} (outcome : S → Outcome) (o : Options) (w : World S B) (k : Kernel S B) : Type 0 where
  -- files, output and statuses are the same, and the reply to Outcome says them
  pub same_outcome : outcome w.host.shared ≡ outcome k.shared
  pub replied : (x : Outcome) → w.tracer.focus ≡ Over x → x ≡ outcome k.shared
  -- every reply was admitted, and none was OutOfTurns
  pub admitted : w.tracer.focus ≡ Faulted → ⊥
  pub in_turns : w.tracer.focus ≡ Turns_over → ⊥
  -- the trace begins a view's parts; at each Wait it is all of them but for those reported, and at the end all
  pub lost : ℕ → Bool
  pub tells : TellsView w.printed (parts o (view lost (traced o.follow k.log))) (IsPast w.tracer.focus)
  pub kept_back : w.tracer.focus ≡ Waiting →
      NothingKeptBack o w.host.queue w.printed (view lost (traced o.follow k.log))
  -- once no tracee is left, each that was born has logged its end
  pub all_ended : IsPast w.tracer.focus →
      (q : ℕ) → 1 ≤ q → q < k.child → traces o.follow q ≡ true → has_exit q k.log ≡ true

-- for every set of options, script, beginning and list of events
abbrev pub HeadlineAt : {S B : Type 0} → Machine S B → Type 0
HeadlineAt {S} {B} m =
    (outcome : S → Outcome) (o : Options) → IsTexts o.texts → (script : Script) →
    (s : S) (b : B) (events : List Event) →
    Headline outcome o (traced_run m outcome o script s b events) (plain_run m outcome o script s b events)

-- for every machine over these two types
abbrev pub IsTransparent : Type 0 → Type 0 → Type 0
IsTransparent S B = (m : Machine S B) → IsMachine m → IsTold m → HeadlineAt m
