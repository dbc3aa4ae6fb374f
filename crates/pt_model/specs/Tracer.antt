-- The tracer: which replies it admits, and what each makes of what it knows, asks and shows (ptrace(2), strace(1)).
use Rattle.std.specs.Prelude.{ℕ, suc, ◌==◌, Bool, true, false, cond, not, ◌&&◌, ◌||◌, List, [], ◌∷◌, ◌++◌, Option, Some, None, filter}
use Rattle.lx_abi.specs.declared.ptrace.Reply.{Reply}
use Rattle.lx_abi.specs.declared.ptrace.Reply.TheVariants.{Done as Agreed, Status as Status_is, Outcome as Outcome_is}
use Rattle.lx_abi.specs.declared.ptrace.Reply.TheVariants.{Errno as Errno_is, OutOfTurns as Out_of_turns}
use Rattle.lx_abi.specs.declared.status.Stop.{Stop}
use Rattle.lx_abi.specs.declared.status.Stop.TheVariants.{Syscall as Syscall_stop, Signal as Signal_stop, Group as Group_stop}
use Rattle.lx_abi.specs.declared.status.Stop.TheVariants.{Event as Event_stop, Ended}
use Rattle.lx_abi.specs.Errnos.{echild}
use Rattle.lx_abi.specs.Status.{stop_of}
use Rattle.lx_model.specs.Kernel.{Script, traces}
use Rattle.pt_model.specs.Admissible.{stop_fits, admits_answer}
use Rattle.pt_model.specs.Parts.{Options, Part}
use Rattle.pt_model.specs.Ptrace.{is_there}
pub use Rattle.pt_model.specs.Known.{Known, opened, closed, stands_at, turned_over, new_known}
pub use Rattle.pt_model.specs.Hearing.{Awaiting, Seizing, Entry_regs, Entry_peek, Entry_set, Exit_regs, Exit_set, Exit_peek}
pub use Rattle.pt_model.specs.Hearing.{Signal_info, Resuming, Listening, asked_options, options_word, asks, Heard, nothing, moves, signal_word}
pub use Rattle.pt_model.specs.Hearing.{entry_with, entry_by, entry, look_entry, read_entry}
pub use Rattle.pt_model.specs.Hearing.{exit, look_exit, read_exit, exit_with, regs_in, bytes_of, told_info, says_done}
pub use Rattle.pt_model.specs.Hearing.{at_entry_regs, peeked_entry, at_entry_set, at_exit_regs, at_exit_set}
pub use Rattle.pt_model.specs.Hearing.{peeked_exit, at_info, hears}
pub use Rattle.pt_model.specs.Focus.{Focus, Booting, Waiting, Serving, Asking_outcome, Over, Turns_over, Faulted, Tracer}
pub use Rattle.pt_model.specs.Focus.{request, Next, stays, focus_on, heard, exit_place, first_place, event_standing}
pub use Rattle.pt_model.specs.Focus.{took_stop, took_status, next_at}

-- only tracees are told of, and each as it stands
abbrev pub admits_stop : Options → ℕ → Known → Option Stop → Bool
admits_stop o p k None = false
admits_stop o p k (Some stop) =
    traces o.follow p && stop_fits o.follow k.called.number (is_there k.saved) k.standing stop

abbrev pub is_empty : List ℕ → Bool
is_empty [] = true
is_empty (p ∷ ps) = false

-- ECHILD is admitted once the end of every tracee that is known was told
abbrev pub admits_at : Options → (ℕ → Known) → List ℕ → Focus → Reply → Bool
admits_at o known tracees Booting Agreed = true
admits_at o known tracees Booting reply = false
admits_at o known tracees Waiting (Status_is p status) = admits_stop o p (known p) (stop_of status.word)
admits_at o known tracees Waiting (Errno_is n) = (n == echild) && is_empty tracees
admits_at o known tracees Waiting Out_of_turns = true
admits_at o known tracees Waiting reply = false
admits_at o known tracees (Serving p place) reply = admits_answer (asks o place) reply
admits_at o known tracees Asking_outcome (Outcome_is x) = true
admits_at o known tracees Asking_outcome Out_of_turns = true
admits_at o known tracees Asking_outcome reply = false
admits_at o known tracees (Over x) reply = false
admits_at o known tracees Turns_over reply = false
admits_at o known tracees Faulted reply = false

abbrev pub is_among : ℕ → List ℕ → Bool
is_among q [] = false
is_among q (p ∷ ps) = (q == p) || is_among q ps

abbrev pub with_tracee : List ℕ → ℕ → List ℕ
with_tracee tracees p = cond (is_among p tracees) tracees (tracees ++ p ∷ [])

abbrev pub told_tracees : List ℕ → ℕ → Option Stop → List ℕ
told_tracees tracees p None = tracees
told_tracees tracees p (Some (Syscall_stop good)) = with_tracee tracees p
told_tracees tracees p (Some (Signal_stop signal)) = with_tracee tracees p
told_tracees tracees p (Some (Group_stop signal)) = with_tracee tracees p
told_tracees tracees p (Some (Event_stop event)) = with_tracee tracees p
told_tracees tracees p (Some (Ended word)) = filter (λ q. not (p == q)) tracees

-- process 1 is known from Seize's Done, and every other from its first status
abbrev pub tracees_after : List ℕ → Focus → Reply → List ℕ
tracees_after tracees Waiting (Status_is p status) = told_tracees tracees p (stop_of status.word)
tracees_after tracees (Serving p Seizing) Agreed = with_tracee tracees p
tracees_after tracees focus reply = tracees

-- the tracer after a reply, and what it shows
pub record Moved : Type 0 where
  pub tracer : Tracer
  pub printed : List Part

abbrev pub takes : Tracer → Focus → Reply → Next → Moved
takes t focus reply n = record {
  tracer = record {
    known = n.known;
    tracees = tracees_after t.tracees focus reply;
    focus = n.focus;
    taken = suc t.taken;
  };
  printed = n.printed;
}

abbrev pub faults : Tracer → Moved
faults t = record {
  tracer = record { known = t.known; tracees = t.tracees; focus = Faulted; taken = t.taken };
  printed = [];
}

-- with this request pending; after a fault every reply is a fault, and shows nothing
abbrev pub next_from : Options → Script → Tracer → Focus → Reply → Moved
next_from o script t focus reply =
    cond (admits_at o t.known t.tracees focus reply)
    (takes t focus reply (next_at o script t.known focus reply)) (faults t)

abbrev pub next : Options → Script → Tracer → Reply → Moved
next o script t reply = next_from o script t t.focus reply

abbrev pub new_tracer : Tracer
new_tracer = record { known = λ p. new_known; tracees = []; focus = Booting; taken = 0 }

-- after Boot's Done its first request is to seize process 1
abbrev pub first_tracer : Tracer
first_tracer = record { known = λ p. new_known; tracees = []; focus = Serving 1 Seizing; taken = 1 }
