-- What a tracer asks now, and what a reply that is admitted leads to. It holds one tracee at a time in hand, from its
-- status to its resumption (ptrace(2), strace(1)).
use Rattle.std.specs.Prelude.{ℕ, ◌==◌, Bool, true, false, cond, ◌&&◌, ◌||◌, List, [], ◌∷◌, Option, Some, None}
use Rattle.lx_abi.specs.declared.outcome.Outcome.{Outcome}
use Rattle.lx_abi.specs.declared.ptrace.Reply.{Reply}
use Rattle.lx_abi.specs.declared.ptrace.Reply.TheVariants.{Status as Status_is, Outcome as Outcome_is}
use Rattle.lx_abi.specs.declared.ptrace.Reply.TheVariants.{Errno as Errno_is, OutOfTurns as Out_of_turns}
use Rattle.lx_abi.specs.declared.ptrace.Request.{Request}
use Rattle.lx_abi.specs.declared.ptrace.Request.TheVariants.{Wait, To, Outcome as Ask_outcome}
use Rattle.lx_abi.specs.declared.status.EventStop.{EventStop}
use Rattle.lx_abi.specs.declared.status.EventStop.TheVariants.{Fork as At_fork, Exec as At_exec, Stop as At_start}
use Rattle.lx_abi.specs.declared.status.Stop.{Stop}
use Rattle.lx_abi.specs.declared.status.Stop.TheVariants.{Syscall as Syscall_stop, Signal as Signal_stop, Group as Group_stop}
use Rattle.lx_abi.specs.declared.status.Stop.TheVariants.{Event as Event_stop, Ended}
use Rattle.lx_abi.specs.Errnos.{echild}
use Rattle.lx_abi.specs.Status.{stop_of}
use Rattle.lx_model.specs.Kernel.{Script, put}
use Rattle.pt_model.specs.Admissible.{Standing, Between, After_signal, Halted, After_event, At_end, was_read}
use Rattle.pt_model.specs.Hearing.{Awaiting, Seizing, Entry_regs, Exit_regs, Signal_info, Resuming, Listening, asks, Heard, hears}
use Rattle.pt_model.specs.Known.{Known, stands_at, turned_over}
use Rattle.pt_model.specs.Parts.{Options, Part, Part_stopped, Part_exit}
use Rattle.pt_model.specs.Ptrace.{is_there}

-- what is asked now
pub data Focus : Type 0 where
  -- nothing: a boot was asked for by others, and its Done comes first
  Booting : Focus
  Waiting : Focus
  -- the tracee in hand
  Serving : ℕ → Awaiting → Focus
  Asking_outcome : Focus
  -- nothing more: the run is whole, was answered OutOfTurns, or met a reply that isn't admitted
  Over : Outcome → Focus
  Turns_over : Focus
  Faulted : Focus

pub record Tracer : Type 0 where
  pub known : ℕ → Known
  -- the tracees that it knows and whose end wasn't told, in the order in which it met them
  pub tracees : List ℕ
  pub focus : Focus
  -- how many replies it took, Boot's Done among them
  pub taken : ℕ

-- the next request, or none at the end
abbrev pub request : Options → Focus → Option Request
request o Booting = None
request o Waiting = Some Wait
request o (Serving p place) = Some (To p (asks o place))
request o Asking_outcome = Some Ask_outcome
request o (Over x) = None
request o Turns_over = None
request o Faulted = None

-- what a reply that is admitted leads to
pub record Next : Type 0 where
  pub known : ℕ → Known
  pub focus : Focus
  pub printed : List Part

abbrev pub stays : (ℕ → Known) → Focus → Next
stays known focus = record { known = known; focus = focus; printed = [] }

abbrev pub focus_on : ℕ → Option Awaiting → Focus
focus_on p (Some place) = Serving p place
focus_on p None = Waiting

abbrev pub heard : (ℕ → Known) → ℕ → Heard → Next
heard known p h = record { known = put known p h.known; focus = focus_on p h.next; printed = h.printed }

-- at an exit the registers are wanted where its entry was read, and the call is shown or replaced
abbrev pub exit_place : Bool → Awaiting
exit_place true = Exit_regs
exit_place false = Resuming 0

abbrev pub first_place : Options → Known → Bool → Awaiting
first_place o k true = exit_place (was_read k.standing && (o.shows k.called.number || is_there k.saved))
first_place o k false = Entry_regs

abbrev pub event_standing : EventStop → Standing
event_standing At_fork = After_event
event_standing At_exec = After_event
event_standing At_start = Between

-- a status was taken: entry and exit stops alternate (ptrace(2), "Syscall-stops")
abbrev pub took_stop : Options → (ℕ → Known) → ℕ → Stop → Next
took_stop o known p (Syscall_stop good) =
    stays (put known p (turned_over (known p))) (Serving p (first_place o (known p) (known p).inside))
took_stop o known p (Signal_stop signal) =
    stays (put known p (stands_at (known p) (After_signal signal))) (Serving p (Signal_info signal.number))
took_stop o known p (Group_stop signal) = record {
  known = put known p (stands_at (known p) Halted);
  focus = Serving p Listening;
  printed = Part_stopped p signal ∷ [];
}
took_stop o known p (Event_stop event) =
    stays (put known p (stands_at (known p) (event_standing event))) (Serving p (Resuming 0))
took_stop o known p (Ended word) = record {
  known = put known p (stands_at (known p) At_end);
  focus = Waiting;
  printed = Part_exit p word ∷ [];
}

abbrev pub took_status : Options → (ℕ → Known) → ℕ → Option Stop → Next
took_status o known p None = stays known Waiting
took_status o known p (Some stop) = took_stop o known p stop

-- a reply that is admitted, while this is asked
abbrev pub next_at : Options → Script → (ℕ → Known) → Focus → Reply → Next
next_at o script known Booting reply = stays known (Serving 1 Seizing)
next_at o script known Waiting (Status_is p status) = took_status o known p (stop_of status.word)
next_at o script known Waiting (Errno_is n) = stays known (cond (n == echild) Asking_outcome Waiting)
next_at o script known (Serving p place) Out_of_turns = stays known Turns_over
next_at o script known (Serving p place) reply = heard known p (hears o script p (known p) place reply)
next_at o script known Asking_outcome (Outcome_is x) = stays known (Over x)
next_at o script known focus Out_of_turns = stays known Turns_over
next_at o script known focus _ = stays known focus
