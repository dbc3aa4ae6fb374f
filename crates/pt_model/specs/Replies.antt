-- The tracer alone, by the replies that it was given, whatever they are.
use Rattle.std.specs.Prelude.{◌≡◌, ◌⊎◌, ℕ, ◌+◌, ◌≤◌, Bool, true, false, cond, ◌&&◌, List, [], ◌∷◌, ◌++◌, Option, Some, None, length}
use Rattle.std.specs.Option.{option_to_list}
use Rattle.lx_abi.specs.declared.outcome.Outcome.{Outcome}
use Rattle.lx_abi.specs.declared.ptrace.Reply.{Reply}
use Rattle.lx_abi.specs.declared.ptrace.Reply.TheVariants.{Done as Agreed, Status as Status_is, Outcome as Outcome_is, OutOfTurns as Out_of_turns}
use Rattle.lx_abi.specs.declared.ptrace.Request.{Request}
use Rattle.lx_abi.specs.declared.schedule.Event.{Event}
use Rattle.lx_abi.specs.declared.schedule.Event.TheVariants.{Turn, Serve}
use Rattle.lx_abi.specs.declared.status.Status.{Status}
use Rattle.lx_abi.specs.declared.status.Stop.{Stop}
use Rattle.lx_abi.specs.declared.status.Stop.TheVariants.{Syscall as Syscall_stop, Signal as Signal_stop, Group as Group_stop, Event as Event_stop, Ended}
use Rattle.lx_abi.specs.Status.{stop_of}
use Rattle.lx_model.specs.Machine.{Machine}
use Rattle.lx_model.specs.Kernel.{Script}
use Rattle.pt_model.specs.Ptrace.{is_there}
use Rattle.pt_model.specs.Requests.{esrch, serve}
use Rattle.pt_model.specs.Parts.{Options, Part}
use Rattle.pt_model.specs.Admissible.{was_read, answers}
use Rattle.pt_model.specs.Tracer.{Awaiting, Seizing, Entry_regs, Entry_peek, Entry_set, Exit_regs, Exit_set, Exit_peek, Signal_info, Resuming, Listening, Focus, Booting, Waiting, Serving, Asking_outcome, Over, Turns_over, Faulted, Tracer, Moved, request, admits_at, next, new_tracer, first_tracer}
use Rattle.pt_model.specs.World.{World, happens, world_run, first_world}
use Rattle.pt_model.specs.Headline.{IsTexts}

-- one more reply, to what was shown so far
abbrev pub after : Options → Script → Moved → Reply → Moved
after o script x r = record {
  tracer = (next o script x.tracer r).tracer;
  printed = x.printed ++ (next o script x.tracer r).printed;
}

abbrev pub after_all : Options → Script → Moved → List Reply → Moved
after_all o script x [] = x
after_all o script x (r ∷ rs) = after_all o script (after o script x r) rs

-- the tracer that was given these replies, Boot's Done first, and the trace that it has shown
abbrev pub told_by : Options → Script → List Reply → Moved
told_by o script rs = after_all o script (record { tracer = new_tracer; printed = [] }) rs

-- the replies of a world

abbrev pub reply_to : {S B : Type 0} → Machine S B → (S → Outcome) → World S B → Option Request → Event → Option Reply
reply_to m outcome w None e = None
reply_to m outcome w (Some q) (Turn p) = None
reply_to m outcome w (Some q) Serve = (serve m outcome w.host q).reply

abbrev pub replies : {S B : Type 0} → Machine S B → (S → Outcome) → Options → Script
    → World S B → List Event → List Reply
replies m outcome o script w [] = []
replies m outcome o script w (e ∷ es) =
    option_to_list (reply_to m outcome w (request o w.tracer.focus) e)
    ++ replies m outcome o script (happens m outcome o script w e) es

-- What a tracer asks and shows is a function of options, script and replies: no world shows it more.
abbrev pub RepliesTellAll : Type 0 → Type 0 → Type 0
RepliesTellAll S B =
    (m : Machine S B) (outcome : S → Outcome) (o : Options) (script : Script) (s : S) (b : B) (events : List Event) →
    let w : World S B = world_run m outcome o script (first_world s b) events in
    told_by o script (Agreed ∷ replies m outcome o script (first_world s b) events)
    ≡ record { tracer = w.tracer; printed = w.printed }

abbrev pub admits : Options → Tracer → Reply → Bool
admits o t r = admits_at o t.known t.tracees t.focus r

-- a reply that is admitted is of a kind that answers what was asked
abbrev pub AdmittedRepliesAnswer : Type 0
AdmittedRepliesAnswer = (o : Options) (t : Tracer) (q : Request) (r : Reply) →
    request o t.focus ≡ Some q → admits o t r ≡ true → answers q r ≡ true

-- Boot's Done comes first, and then process 1 is seized
abbrev pub BootComesFirst : Type 0
BootComesFirst = (o : Options) (script : Script) →
    told_by o script (Agreed ∷ []) ≡ record { tracer = first_tracer; printed = [] }

-- what is shown stays shown
abbrev pub TracesGrow : Type 0
TracesGrow = (o : Options) (script : Script) (rs more : List Reply) →
    (later : List Part) × (told_by o script (rs ++ more)).printed ≡ (told_by o script rs).printed ++ later

-- after a reply that isn't admitted nothing more is shown, asked or taken
abbrev pub FaultsAreForGood : Type 0
FaultsAreForGood = (o : Options) (script : Script) (rs more : List Reply) (bad : Reply) →
    admits o (told_by o script rs).tracer bad ≡ false →
    ((told_by o script (rs ++ bad ∷ more)).printed ≡ (told_by o script rs).printed)
    × ((told_by o script (rs ++ bad ∷ more)).tracer.focus ≡ Faulted)
    × ((told_by o script (rs ++ bad ∷ more)).tracer.taken ≡ (told_by o script rs).tracer.taken)

-- the count of replies counts them, until a fault
abbrev pub TakenIsCounted : Type 0
TakenIsCounted = (o : Options) (script : Script) (rs : List Reply) →
    ((told_by o script rs).tracer.focus ≡ Faulted → ⊥) → (told_by o script rs).tracer.taken ≡ length rs

-- How many requests are made

abbrev pub is_status : Focus → Reply → Bool
is_status Waiting (Status_is p status) = true
is_status focus r = false

abbrev pub one_if_asked : Options → Tracer → ℕ
one_if_asked o t = cond (is_there (request o t.focus)) 1 0

-- requests since the last status or the beginning, after one more reply: the pending one is counted
abbrev pub asked_after : Options → Script → Tracer → ℕ → Reply → ℕ
asked_after o script t asked r =
    cond (admits o t r && is_status t.focus r)
    (one_if_asked o (next o script t r).tracer) (asked + one_if_asked o (next o script t r).tracer)

abbrev pub asked_since : Options → Script → Tracer → ℕ → List Reply → ℕ
asked_since o script t asked [] = asked
asked_since o script t asked (r ∷ rs) =
    asked_since o script (next o script t r).tracer (asked_after o script t asked r) rs

-- before the first status, between two, and after the last there are at most 100 requests, whatever the replies are
abbrev pub FewRequests : Type 0
FewRequests = (o : Options) → IsTexts o.texts → (script : Script) (rs : List Reply) →
    asked_since o script new_tracer 0 rs ≤ 100

-- The hand

-- whom the tracer has in hand
abbrev pub in_hand : Focus → Option ℕ
in_hand Booting = None
in_hand Waiting = None
in_hand (Serving p place) = Some p
in_hand Asking_outcome = None
in_hand (Over x) = None
in_hand Turns_over = None
in_hand Faulted = None

-- whom a status puts in hand: its process, unless it has ended
abbrev pub comes_to_hand : ℕ → Option Stop → Option ℕ
comes_to_hand p None = None
comes_to_hand p (Some (Syscall_stop good)) = Some p
comes_to_hand p (Some (Signal_stop signal)) = Some p
comes_to_hand p (Some (Group_stop signal)) = Some p
comes_to_hand p (Some (Event_stop event)) = Some p
comes_to_hand p (Some (Ended word)) = None

abbrev pub StatusesComeToHand : Type 0
StatusesComeToHand = (o : Options) (script : Script) (t : Tracer) (p : ℕ) (status : Status) →
    t.focus ≡ Waiting → admits o t (Status_is p status) ≡ true →
    in_hand (next o script t (Status_is p status)).tracer.focus ≡ comes_to_hand p (stop_of status.word)

-- no other process comes to hand by a reply that concerns it
abbrev pub TheHandStays : Type 0
TheHandStays = (o : Options) (script : Script) (t : Tracer) (p q : ℕ) (place : Awaiting) (r : Reply) →
    t.focus ≡ Serving p place → in_hand (next o script t r).tracer.focus ≡ Some q → q ≡ p

-- an exit whose entry was never read is neither read nor shown
abbrev pub UnreadCallsHaveNoExit : Type 0
UnreadCallsHaveNoExit = (o : Options) (script : Script) (t : Tracer) (p : ℕ) (status : Status) (good : Bool) →
    t.focus ≡ Waiting → stop_of status.word ≡ Some (Syscall_stop good) →
    (t.known p).inside ≡ true → was_read (t.known p).standing ≡ false → admits o t (Status_is p status) ≡ true →
    ((next o script t (Status_is p status)).tracer.focus ≡ Serving p (Resuming 0))
    × ((next o script t (Status_is p status)).printed ≡ [])

-- Seize, and the last request to a tracee in a stop
abbrev pub LetsGo : Awaiting → Type 0
LetsGo Seizing = Unit {0}
LetsGo Entry_regs = ⊥
LetsGo (Entry_peek r got w) = ⊥
LetsGo (Entry_set r n) = ⊥
LetsGo Exit_regs = ⊥
LetsGo (Exit_set r x) = ⊥
LetsGo (Exit_peek x replaced got w) = ⊥
LetsGo (Signal_info n) = ⊥
LetsGo (Resuming n) = Unit {0}
LetsGo Listening = Unit {0}

-- A tracee in hand is let go, or met ESRCH, before Wait is asked again: nothing that was learnt is dropped.
abbrev pub NobodyIsLeftHeld : Type 0
NobodyIsLeftHeld = (o : Options) (script : Script) (t : Tracer) (p : ℕ) (place : Awaiting) (r : Reply) →
    t.focus ≡ Serving p place → admits o t r ≡ true → (next o script t r).tracer.focus ≡ Waiting →
    (LetsGo place × (r ≡ Agreed)) ⊎ (r ≡ esrch)

-- these replies let the tracee in hand go: with the reply to its last request, or with ESRCH
pub record LetGo (o : Options) (script : Script) (x : Moved) (p : ℕ) (rs : List Reply) : Type 0 where
  pub before : List Reply
  pub place : Awaiting
  pub reply : Reply
  pub more : List Reply
  pub split : rs ≡ before ++ reply ∷ more
  pub asked : (after_all o script x before).tracer.focus ≡ Serving p place
  pub how : (LetsGo place × (reply ≡ Agreed)) ⊎ (reply ≡ esrch)

-- so whoever came to hand was let go before the next Wait, whatever the replies were
abbrev pub EachIsLetGo : Type 0
EachIsLetGo = (o : Options) (script : Script) (x : Moved) (p : ℕ) (place : Awaiting) (rs : List Reply) →
    x.tracer.focus ≡ Serving p place → (after_all o script x rs).tracer.focus ≡ Waiting → LetGo o script x p rs

-- the last request to a tracee that a status put in hand: Syscall, or at a group stop Listen
abbrev pub Resumes : Awaiting → Type 0
Resumes place = ((signal : ℕ) × (place ≡ Resuming signal)) ⊎ (place ≡ Listening)

-- these replies resume the tracee in hand, or one of them is ESRCH
pub record Resumed (o : Options) (script : Script) (x : Moved) (p : ℕ) (rs : List Reply) : Type 0 where
  pub before : List Reply
  pub place : Awaiting
  pub reply : Reply
  pub more : List Reply
  pub split : rs ≡ before ++ reply ∷ more
  pub asked : (after_all o script x before).tracer.focus ≡ Serving p place
  pub how : (Resumes place × (reply ≡ Agreed)) ⊎ (reply ≡ esrch)

-- so whoever came to hand by a status was resumed, and not seized, before the next Wait
abbrev pub EachIsResumed : Type 0
EachIsResumed = (o : Options) (script : Script) (x : Moved) (p : ℕ) (status : Status) (rs : List Reply) →
    x.tracer.focus ≡ Waiting → admits o x.tracer (Status_is p status) ≡ true →
    comes_to_hand p (stop_of status.word) ≡ Some p →
    (after_all o script x (Status_is p status ∷ rs)).tracer.focus ≡ Waiting →
    Resumed o script (after o script x (Status_is p status)) p rs

-- a tracer is whole by the reply to Outcome alone, and out of turns by OutOfTurns alone
abbrev pub WholeIsTold : Type 0
WholeIsTold = (o : Options) (script : Script) (t : Tracer) (r : Reply) (x : Outcome) →
    (next o script t r).tracer.focus ≡ Over x → (t.focus ≡ Asking_outcome) × (r ≡ Outcome_is x)

abbrev pub OutOfTurnsIsTold : Type 0
OutOfTurnsIsTold = (o : Options) (script : Script) (t : Tracer) (r : Reply) →
    (next o script t r).tracer.focus ≡ Turns_over → r ≡ Out_of_turns
