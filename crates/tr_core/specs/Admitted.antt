-- A reply that is admitted, by what is asked.
use Rattle.std.specs.Prelude.{ℕ, ◌==◌, Bool, true, false, cond, ◌&&◌, List, Option, Some, None}
use Rattle.lx_abi.specs.declared.outcome.Outcome.{Outcome}
use Rattle.lx_abi.specs.declared.ptrace.Reply.{Reply}
use Rattle.lx_abi.specs.declared.ptrace.Reply.TheVariants.{Status as Status_is, Outcome as Outcome_is}
use Rattle.lx_abi.specs.declared.ptrace.Reply.TheVariants.{Errno as Errno_is, OutOfTurns as Out_of_turns}
use Rattle.lx_abi.specs.declared.status.Stop.{Stop}
use Rattle.lx_abi.specs.Errnos.{echild}
use Rattle.lx_abi.specs.Status.{stop_of}
use Rattle.lx_model.specs.Kernel.{Script}
use Rattle.pt_model.specs.Parts.{Options}
use Rattle.pt_model.specs.Tracer.{Known, Next, Awaiting, Seizing, Resuming, Listening}
use Rattle.pt_model.specs.Tracer.{Waiting, Asking_outcome, Over, Turns_over, stays}
use Rattle.pt_model.specs.Tracer.{heard, hears, says_done, took_status, told_tracees, with_tracee}
use Rattle.pt_model.specs.Tracer as tracer
use Rattle.tr_core.specs.Known.{place_of}
use Rattle.tr_core.specs.declared.place.Focus.{Focus}
use Rattle.tr_core.specs.declared.place.Focus.TheVariants as focus

abbrev pub told_status : Reply → Option (ℕ × Option Stop)
told_status (Status_is q status) = Some (q, stop_of status.word)
told_status _ = None

abbrev pub says_childless : Reply → Bool
says_childless (Errno_is n) = n == echild
says_childless _ = false

abbrev pub says_out : Reply → Bool
says_out Out_of_turns = true
says_out _ = false

abbrev pub told_outcome : Reply → Option Outcome
told_outcome (Outcome_is x) = Some x
told_outcome _ = None

abbrev pub waits_by : Options → (ℕ → Known) → Option (ℕ × Option Stop) → Bool → Bool → Next
waits_by o known (Some told) childless out = took_status o known told.0 told.1
waits_by o known None true out = stays known Asking_outcome
waits_by o known None false true = stays known Turns_over
waits_by o known None false false = stays known Waiting

abbrev pub tracees_by_status : List ℕ → Option (ℕ × Option Stop) → List ℕ
tracees_by_status tracees (Some told) = told_tracees tracees told.0 told.1
tracees_by_status tracees None = tracees

abbrev pub serves_by : Options → Script → (ℕ → Known) → ℕ → Awaiting → Reply → Bool → Next
serves_by o script known p place reply true = stays known Turns_over
serves_by o script known p place reply false = heard known p (hears o script p (known p) place reply)

abbrev pub waits : Focus → Bool
waits focus.Waiting = true
waits _ = false

abbrev pub resumes : Awaiting → Bool
resumes (Resuming n) = true
resumes _ = false

-- a tracee was resumed
abbrev pub resumed : Focus → Bool
resumed (focus.Serving p place) = resumes (place_of place)
resumed _ = false

-- what is asked after the reply to a resumption, where the schedule has no more events or goes on
abbrev pub focus_after_resuming : Bool → tracer.Focus
focus_after_resuming true = Turns_over
focus_after_resuming false = Waiting

-- the tracee was let go, and goes on whatever is replied
abbrev pub lets_go : Awaiting → Bool
lets_go Seizing = true
lets_go (Resuming n) = true
lets_go Listening = true
lets_go _ = false

abbrev pub is_seizing : Awaiting → Bool
is_seizing Seizing = true
is_seizing _ = false

abbrev pub tracees_by_reply : List ℕ → ℕ → Bool → List ℕ
tracees_by_reply tracees p seized = cond seized (with_tracee tracees p) tracees

abbrev pub ends_by : (ℕ → Known) → Option Outcome → Bool → Next
ends_by known (Some x) out = stays known (Over x)
ends_by known None true = stays known Turns_over
ends_by known None false = stays known Asking_outcome

-- what a reply leads to, where it is admitted
abbrev pub next_by : Options → Script → (ℕ → Known) → Focus → Reply → Next
next_by o script known focus.Booting r = stays known (tracer.Serving 1 tracer.Seizing)
next_by o script known focus.Waiting r = waits_by o known (told_status r) (says_childless r) (says_out r)
next_by o script known (focus.Serving p place) r = serves_by o script known p (place_of place) r (says_out r)
next_by o script known focus.AskingOutcome r = ends_by known (told_outcome r) (says_out r)
next_by o script known (focus.Over x) r = stays known tracer.Faulted
next_by o script known focus.TurnsOver r = stays known tracer.Faulted
next_by o script known focus.Faulted r = stays known tracer.Faulted

abbrev pub tracees_by : List ℕ → Focus → Reply → List ℕ
tracees_by tracees focus.Booting r = tracees
tracees_by tracees focus.Waiting r = tracees_by_status tracees (told_status r)
tracees_by tracees (focus.Serving p place) r = tracees_by_reply tracees p (is_seizing (place_of place) && says_done r)
tracees_by tracees focus.AskingOutcome r = tracees
tracees_by tracees (focus.Over x) r = tracees
tracees_by tracees focus.TurnsOver r = tracees
tracees_by tracees focus.Faulted r = tracees
