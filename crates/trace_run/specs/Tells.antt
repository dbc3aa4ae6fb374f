-- What a run writes, by the untraced kernel.
use Rattle.std.specs.Prelude.{◌≡◌, ℕ, ◌≤◌, ◌<◌, Bool, true, List, [], ◌∷◌, ◌++◌, Option, Result, Ok, Err, OnOk}
use Rattle.std.specs.Io.KnownBytes.{Appends}
use Rattle.lx_abi.specs.declared.outcome.Outcome.{Outcome}
use Rattle.lx_abi.specs.declared.schedule.Event.{Event}
use Rattle.lx_abi.specs.declared.ptrace.Reply.{Reply}
use Rattle.lx_abi.specs.declared.ptrace.Reply.TheVariants.{Done as Agreed}
use Rattle.lx_abi.specs.declared.ptrace.Request.{Request}
use Rattle.pt_model.specs.Attending.{called, reply_or}
use Rattle.pt_model.specs.Calls.{IsOwn}
use Rattle.pt_model.specs.Ptrace.{Host, is_there}
use Rattle.pt_model.specs.Parts as parts_of
use Rattle.pt_model.specs.Replies.{told_by}
use Rattle.pt_model.specs.Tracer.{Over, request}
use Rattle.pt_model.specs.World.{first_world}
use Rattle.pt_model.specs.Headline.{IsTold, traced_run, plain_run}
use Rattle.lx_model.specs.Kernel.{Script, traces}
use Rattle.lx_model.specs.Machine.{Machine, IsMachine}
use Rattle.pt_model.specs.View.{view, has_exit, traced, parts}
use Rattle.host_wire.specs.Ends.{AppendsPart}
use Rattle.tr_core.specs.Settings.{options_by, layout_by, first_pen}
use Rattle.tr_core.specs.States.{new_state}
use Rattle.tr_core.specs.declared.settings.Options.{Options}
use Rattle.tr_core.specs.declared.tracing.TraceFault.TheVariants.{Inadmissible}
use Rattle.tr_line.specs.Lines.{rendering}
use Rattle.trace_run.specs.declared.running.Ended.{Ended}
use Rattle.trace_run.specs.declared.running.Ended.TheVariants.{Whole, OutOfTurns}
use Rattle.trace_run.specs.declared.running.RunFault.{RunFault}
use Rattle.trace_run.specs.declared.running.RunFault.TheVariants.{Trace}
use Rattle.trace_run.specs.Runs.{Answers, RunsWhole, replies_of}
use Rattle.trace_run.specs.Writers.{Writer}

-- the bytes of a view of the untraced kernel's log, after the same effective turns
abbrev pub view_text : {S B : Type 0} → Machine S B → (S → Outcome) → Options → Script → S → B → List Event
    → (ℕ → Bool) → List ℕ
view_text m outcome o script s b events lost =
    rendering (layout_by o)
    (parts (options_by o) (view lost (traced o.follow (plain_run m outcome (options_by o) script s b events).log)))

-- the bytes of what the world has shown by these events
abbrev pub shown_text : {S B : Type 0} → Machine S B → (S → Outcome) → Options → Script → S → B → List Event → List ℕ
shown_text m outcome o script s b events =
    rendering (layout_by o) (traced_run m outcome (options_by o) script s b events).printed

-- the outcome is that kernel's, the trace is all of it, and each tracee that was born has logged its end
pub record IsWholeRun {S B : Type 0} (m : Machine S B) (outcome : S → Outcome) (o : Options) (script : Script)
    (s : S) (b : B) (events : List Event) (x : Outcome) (old new : Option (List ℕ)) : Type 0 where
  pub same_outcome : x ≡ outcome (plain_run m outcome (options_by o) script s b events).shared
  -- it is what the host replied to Outcome
  pub told : (traced_run m outcome (options_by o) script s b events).tracer.focus ≡ Over x
  pub lost : ℕ → Bool
  pub all : Appends old new (view_text m outcome o script s b events lost)
  pub all_ended : (q : ℕ) → 1 ≤ q → q < (plain_run m outcome (options_by o) script s b events).child
      → traces o.follow q ≡ true → has_exit q (plain_run m outcome (options_by o) script s b events).log ≡ true

pub record Tells {S B : Type 0} (m : Machine S B) (outcome : S → Outcome) (o : Options) (script : Script) (s : S)
    (b : B) (events : List Event) (result : Result Ended RunFault) (old new : Option (List ℕ)) : Type 0 where
  pub lost : ℕ → Bool
  -- however the run ended
  pub begins : AppendsPart old new (view_text m outcome o script s b events lost)
  -- nothing is kept back where it didn't fail, out of turns too: all that the world has shown is written
  pub shown : OnOk result (Appends old new (shown_text m outcome o script s b events))
  pub whole : (x : Outcome) → result ≡ Ok (Whole x) → IsWholeRun m outcome o script s b events x old new
  -- out of turns only where the outcome was still to be asked for or answered after all the events
  pub out_of_turns : result ≡ Ok OutOfTurns
      → is_there (request (options_by o) (traced_run m outcome (options_by o) script s b events).tracer.focus) ≡ true
  pub admitted : result ≡ Err (Trace Inadmissible) → ⊥

-- for every run whose replies are a host's own
unfoldable pub RunsTell : {L : Type 0} → (S B : Type 0) → Answers L → Type 0
RunsTell {L} S B answers = (o : Options) (script : Script)
    (link link' : L) (old new : Writer) (result : Result Ended RunFault)
    (w : RunsWhole answers (new_state (options_by o) script (first_pen o)) link old result link' new)
    (m : Machine S B) → IsMachine m → IsTold m → (outcome : S → Outcome) (s : S) (b : B) (events : List Event)
    → IsOwn m outcome (options_by o) script s b events (replies_of w.runs.exchanges)
    → Tells m outcome o script s b events result old.contents new.contents

-- replies that are a host's own for these events, and a last one that may be anything
pub record OwnUntil {S B : Type 0} (m : Machine S B) (outcome : S → Outcome) (o : parts_of.Options) (script : Script)
    (s : S) (b : B) (events : List Event) (rs : List Reply) : Type 0 where
  pub own : List Reply
  pub is_own : IsOwn m outcome o script s b events own
  pub last : Reply
  pub split : rs ≡ own ++ last ∷ []

-- what a run writes that fails by a reply that isn't admitted: all that the replies before it brought, which begins the
-- rendering of a view
pub record RefusedTells {S B : Type 0} (m : Machine S B) (outcome : S → Outcome) (o : Options) (script : Script) (s : S)
    (b : B) (events : List Event) (own : List Reply) (old new : Option (List ℕ)) : Type 0 where
  pub lost : ℕ → Bool
  pub begins : AppendsPart old new (view_text m outcome o script s b events lost)
  pub shown : Appends old new
      (rendering (layout_by o) (told_by (options_by o) script (Agreed ∷ own)).printed)

-- for every run whose replies before that one are a host's own
unfoldable pub RefusedRunsTell : {L : Type 0} → (S B : Type 0) → Answers L → Type 0
RefusedRunsTell {L} S B answers = (o : Options) (script : Script)
    (link link' : L) (old new : Writer)
    (w : RunsWhole answers (new_state (options_by o) script (first_pen o)) link old (Err (Trace Inadmissible))
    link' new)
    (m : Machine S B) → IsMachine m → IsTold m → (outcome : S → Outcome) (s : S) (b : B) (events : List Event)
    (u : OwnUntil m outcome (options_by o) script s b events (replies_of w.runs.exchanges))
    → RefusedTells m outcome o script s b events u.own old.contents new.contents

-- each reply is what a call of the host in memory answers, by the events that are left
abbrev pub Served : {S B : Type 0} → Machine S B → (S → Outcome) → Host S B → List Event → List (Request × Reply)
    → Type 0
Served m outcome h es [] = Unit {0}
Served m outcome h es (x ∷ xs) = (x.1 ≡ reply_or (called m outcome h x.0 es).reply)
    × Served m outcome (called m outcome h x.0 es).host (called m outcome h x.0 es).left xs

-- for every run over such a host
unfoldable pub ServedRunsTell : {L : Type 0} → (S B : Type 0) → Answers L → Type 0
ServedRunsTell {L} S B answers = (o : Options) (script : Script)
    (link link' : L) (old new : Writer) (result : Result Ended RunFault)
    (w : RunsWhole answers (new_state (options_by o) script (first_pen o)) link old result link' new)
    (m : Machine S B) → IsMachine m → IsTold m → (outcome : S → Outcome) (s : S) (b : B) (events : List Event)
    → Served m outcome (first_world s b).host events w.runs.exchanges
    → Tells m outcome o script s b events result old.contents new.contents
