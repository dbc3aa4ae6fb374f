-- The tracer lets go only of whom it was told.
use Rattle.std.proofs.Common.{◌≡◌, ℕ, Bool, true, false, cond, ◌&&◌, List, [], ◌∷◌, Option, Some, None, refl, sym, subst}
use Rattle.std.specs.Prelude.{◌==◌}
use Rattle.lx_abi.specs.Errnos.{echild}
use Rattle.lx_abi.specs.declared.outcome.Outcome.{Outcome}
use Rattle.lx_abi.specs.declared.ptrace.Reply.{Reply}
use Rattle.lx_abi.specs.declared.ptrace.Reply.TheVariants as reply
use Rattle.lx_abi.specs.declared.ptrace.Request.{Request}
use Rattle.lx_abi.specs.declared.ptrace.Request.TheVariants.{Wait, To, Outcome as Ask_outcome}
use Rattle.lx_abi.specs.declared.schedule.Event.{Event}
use Rattle.lx_abi.specs.declared.schedule.Event.TheVariants.{Turn, Serve}
use Rattle.lx_abi.specs.declared.status.Stop.{Stop}
use Rattle.lx_abi.specs.declared.status.Stop.TheVariants.{Syscall as Syscall_stop, Signal as Signal_stop, Group as Group_stop, Event as Event_stop, Ended}
use Rattle.lx_abi.specs.Status.{stop_of}
use Rattle.lx_model.specs.Machine.{Machine}
use Rattle.lx_model.specs.Kernel.{Script, put}
use Rattle.pt_model.specs.Ptrace.{Host, host_turn}
use Rattle.pt_model.specs.Requests.{serve}
use Rattle.pt_model.specs.Parts.{Options}
use Rattle.pt_model.specs.Known.{Known}
use Rattle.pt_model.specs.Hearing.{Awaiting, Seizing, Entry_regs, Entry_peek, Entry_set, Exit_regs, Exit_set, Exit_peek, Signal_info, Resuming, Listening, asks, hears}
use Rattle.pt_model.specs.Tracer.{Focus, Booting, Waiting, Serving, Asking_outcome, Over, Turns_over, Faulted, Tracer, Next, request, focus_on, took_status, next_at, admits_at, takes, faults}
use Rattle.pt_model.specs.World.{World, met, happens_asked, happens, world_run, first_world}
use Rattle.pt_model.proofs.Maps.{put_here}
use Rattle.pt_laws.specs.Stops.{lets_go, is_agreed, minds, AreStops}
use Rattle.pt_laws.specs.Polite.{IsPolite, AreOnce, IsAttended, minds_event, minds_all, WorldsAreAttended}
use Rattle.pt_laws.proofs.Turning.{turns_keep_stops}
use Rattle.pt_laws.proofs.Asking.{requests_keep_stops}
use Rattle.pt_laws.proofs.Stops.{first_stops}
use Rattle.pt_laws.proofs.Once.{turns_keep_once, requests_keep_once, first_once}

-- whoever is in hand was told of, but process 1 while it is seized
abbrev is_after : Awaiting → Bool
is_after Seizing = false
is_after Entry_regs = true
is_after (Entry_peek r got w) = true
is_after (Entry_set r n) = true
is_after Exit_regs = true
is_after (Exit_set r x) = true
is_after (Exit_peek x replaced got w) = true
is_after (Signal_info n) = true
is_after (Resuming n) = true
is_after Listening = true

abbrev InHand : Focus → (ℕ → Bool) → Type 0
InHand Booting told = Unit {0}
InHand Waiting told = Unit {0}
InHand (Serving p place) told = is_after place ≡ true → told p ≡ true
InHand Asking_outcome told = Unit {0}
InHand (Over x) told = Unit {0}
InHand Turns_over told = Unit {0}
InHand Faulted told = Unit {0}

polite : (o : Options) (told : ℕ → Bool) (p : ℕ) (place : Awaiting) → InHand (Serving p place) told → IsPolite told (To p (asks o place))
polite o told p Seizing h going = absurd (cc going)
polite o told p Entry_regs h going = h refl
polite o told p (Entry_peek r got w) h going = h refl
polite o told p (Entry_set r n) h going = h refl
polite o told p Exit_regs h going = h refl
polite o told p (Exit_set r x) h going = h refl
polite o told p (Exit_peek x replaced got w) h going = h refl
polite o told p (Signal_info n) h going = h refl
polite o told p (Resuming n) h going = h refl
polite o told p Listening h going = h refl

-- What a reply to a request of the process in hand leads to.

module _ (o : Options) (script : Script) (known : ℕ → Known) (told : ℕ → Bool) (p : ℕ) where
  on : (x : Option Awaiting) → told p ≡ true → InHand (focus_on p x) told
  on None h = tt
  on (Some place) h = λ later. h

  abbrev minded : Awaiting → Reply → ℕ → Bool
  minded place r = cond (lets_go (asks o place) && is_agreed (Some r)) (put told p false) told

  hears_on : (place : Awaiting) (r : Reply) → InHand (Serving p place) told → InHand (focus_on p (hears o script p (known p) place r).next) (minded place r)
  hears_on Seizing r h = tt
  hears_on Entry_regs r h = on (hears o script p (known p) Entry_regs r).next (h refl)
  hears_on (Entry_peek regs got w) r h = on (hears o script p (known p) (Entry_peek regs got w) r).next (h refl)
  hears_on (Entry_set regs n) r h = on (hears o script p (known p) (Entry_set regs n) r).next (h refl)
  hears_on Exit_regs r h = on (hears o script p (known p) Exit_regs r).next (h refl)
  hears_on (Exit_set regs x) r h = on (hears o script p (known p) (Exit_set regs x) r).next (h refl)
  hears_on (Exit_peek x replaced got w) r h = on (hears o script p (known p) (Exit_peek x replaced got w) r).next (h refl)
  hears_on (Signal_info n) r h = on (hears o script p (known p) (Signal_info n) r).next (h refl)
  hears_on (Resuming n) r h = tt
  hears_on Listening r h = tt

  served_on : (place : Awaiting) (r : Reply) → InHand (Serving p place) told → InHand (next_at o script known (Serving p place) r).focus (minded place r)
  served_on place reply.Done h = hears_on place reply.Done h
  served_on place (reply.Status v z) h = hears_on place (reply.Status v z) h
  served_on place (reply.Registers v) h = hears_on place (reply.Registers v) h
  served_on place (reply.Bytes v) h = hears_on place (reply.Bytes v) h
  served_on place (reply.Message v) h = hears_on place (reply.Message v) h
  served_on place (reply.Info v) h = hears_on place (reply.Info v) h
  served_on place (reply.Outcome v) h = hears_on place (reply.Outcome v) h
  served_on place (reply.Errno v) h = hears_on place (reply.Errno v) h
  served_on place reply.OutOfTurns h = tt
  served_on place (reply.Refused v) h = hears_on place (reply.Refused v) h

-- what a status leads to
module _ (o : Options) (known : ℕ → Known) (told : ℕ → Bool) (p : ℕ) where
  took_on : (x : Option Stop) → InHand (took_status o known p x).focus (put told p true)
  took_on None = tt
  took_on (Some (Syscall_stop good)) = λ later. put_here told p true
  took_on (Some (Signal_stop signal)) = λ later. put_here told p true
  took_on (Some (Group_stop signal)) = λ later. put_here told p true
  took_on (Some (Event_stop event)) = λ later. put_here told p true
  took_on (Some (Ended word)) = tt

module _ (o : Options) (script : Script) (known : ℕ → Known) (told : ℕ → Bool) where
  waits_or_not : (b : Bool) → InHand (cond b Asking_outcome Waiting) told
  waits_or_not true = tt
  waits_or_not false = tt

  waited_on : (r : Reply) → InHand (next_at o script known Waiting r).focus (minds told Wait (Some r))
  waited_on reply.Done = tt
  waited_on (reply.Status p status) = took_on o known told p (stop_of status.word)
  waited_on (reply.Registers v) = tt
  waited_on (reply.Bytes v) = tt
  waited_on (reply.Message v) = tt
  waited_on (reply.Info v) = tt
  waited_on (reply.Outcome v) = tt
  waited_on (reply.Errno n) = waits_or_not (n == echild)
  waited_on reply.OutOfTurns = tt
  waited_on (reply.Refused v) = tt

  outcome_on : (r : Reply) → InHand (next_at o script known Asking_outcome r).focus told
  outcome_on reply.Done = tt
  outcome_on (reply.Status p status) = tt
  outcome_on (reply.Registers v) = tt
  outcome_on (reply.Bytes v) = tt
  outcome_on (reply.Message v) = tt
  outcome_on (reply.Info v) = tt
  outcome_on (reply.Outcome v) = tt
  outcome_on (reply.Errno n) = tt
  outcome_on reply.OutOfTurns = tt
  outcome_on (reply.Refused v) = tt

-- a reply that isn't admitted is a fault
admitted_on : (t : Tracer) (told : ℕ → Bool) (focus : Focus) (r : Reply) (n : Next) (b : Bool) → InHand n.focus told → InHand (cond b (takes t focus r n) (faults t)).tracer.focus told
admitted_on t told focus r n true h = h
admitted_on t told focus r n false h = tt

-- A world.

record IsMet {S B : Type 0} (w : World S B) (told : ℕ → Bool) : Type 0 where
  attended : IsAttended w told
  hand : InHand w.tracer.focus told

module _ {S B : Type 0} (m : Machine S B) (outcome : S → Outcome) (o : Options) (script : Script) (w : World S B) (told : ℕ → Bool) (all : AreStops (record { host = w.host; told = told })) (once : AreOnce (record { host = w.host; told = told })) where
  abbrev After : Request → Host S B → Option Reply → Type 0
  After q h r = AreStops (record { host = h; told = minds told q r }) × AreOnce (record { host = h; told = minds told q r })

  served : (q : Request) → IsPolite told q → After q (serve m outcome w.host q).host (serve m outcome w.host q).reply
  served q kind = (requests_keep_stops m outcome (record { host = w.host; told = told }) q all, requests_keep_once m outcome (record { host = w.host; told = told }) q kind all once)

  -- a reply to this request comes to the tracer
  replied : (focus : Focus) (q : Request) (h : Host S B) (r : Option Reply) → After q h r → InHand w.tracer.focus (minds told q None) →
      ((x : Reply) → InHand (next_at o script w.tracer.known focus x).focus (minds told q (Some x))) → IsMet (met o script w focus h r) (minds told q r)
  replied focus q h None after hand leads = record { attended = record { stops = after.0; once = after.1 }; hand = hand }
  replied focus q h (Some x) after hand leads = record {
    attended = record { stops = after.0; once = after.1 };
    hand = admitted_on w.tracer (minds told q (Some x)) focus x (next_at o script w.tracer.known focus x) (admits_at o w.tracer.known w.tracer.tracees focus x) (leads x);
  }

  unminded : (b : Bool) → (b && false) ≡ false
  unminded true = refl
  unminded false = refl

  turned : (p : ℕ) → InHand w.tracer.focus told → IsMet (record { host = host_turn m w.host p; tracer = w.tracer; printed = w.printed }) told
  turned p hand = record {
    attended = record { stops = turns_keep_stops m (record { host = w.host; told = told }) p all; once = turns_keep_once m (record { host = w.host; told = told }) p all once };
    hand = hand;
  }

  as_it_is : InHand w.tracer.focus told → IsMet w told
  as_it_is hand = record { attended = record { stops = all; once = once }; hand = hand }

  asked : (focus : Focus) (e : Event) → w.tracer.focus ≡ focus → InHand w.tracer.focus told → IsMet (happens_asked m outcome o script w focus (request o focus) e) (minds_event m outcome w.host (request o focus) e told)
  asked Booting e is hand = as_it_is hand
  asked (Over x) e is hand = as_it_is hand
  asked Turns_over e is hand = as_it_is hand
  asked Faulted e is hand = as_it_is hand
  asked Waiting (Turn p) is hand = turned p hand
  asked (Serving q place) (Turn p) is hand = turned p hand
  asked Asking_outcome (Turn p) is hand = turned p hand
  asked Waiting Serve is hand =
      replied Waiting Wait (serve m outcome w.host Wait).host (serve m outcome w.host Wait).reply (served Wait tt) hand (λ x. waited_on o script w.tracer.known told x)
  asked (Serving p place) Serve is hand =
      let its : InHand (Serving p place) told = subst (λ f. InHand f told) is hand in
      replied (Serving p place) (To p (asks o place)) (serve m outcome w.host (To p (asks o place))).host (serve m outcome w.host (To p (asks o place))).reply
      (served (To p (asks o place)) (polite o told p place its))
      (subst (λ b. InHand w.tracer.focus (cond b (put told p false) told)) (sym (unminded (lets_go (asks o place)))) hand)
      (λ x. served_on o script w.tracer.known told p place x its)
  asked Asking_outcome Serve is hand =
      replied Asking_outcome Ask_outcome (serve m outcome w.host Ask_outcome).host (serve m outcome w.host Ask_outcome).reply (served Ask_outcome tt) hand (λ x. outcome_on o script w.tracer.known told x)

run_met : {S B : Type 0} (m : Machine S B) (outcome : S → Outcome) (o : Options) (script : Script) (w : World S B) (events : List Event) (told : ℕ → Bool) → IsMet w told →
    IsMet (world_run m outcome o script w events) (minds_all m outcome o script w events told)
run_met m outcome o script w [] told k = k
run_met m outcome o script w (e ∷ events) told k =
    run_met m outcome o script (happens m outcome o script w e) events (minds_event m outcome w.host (request o w.tracer.focus) e told)
    (asked m outcome o script w told k.attended.stops k.attended.once w.tracer.focus e refl k.hand)

pub worlds_are_attended : {S B : Type 0} → WorldsAreAttended S B
worlds_are_attended m outcome o script s b events =
    (run_met m outcome o script (first_world s b) events (λ p. false)
    (record { attended = record { stops = first_stops s b; once = first_once s b }; hand = λ later. absurd (cc later) })).attended
