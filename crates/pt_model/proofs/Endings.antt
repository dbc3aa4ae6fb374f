-- How a tracer comes to its end.
use Rattle.std.proofs.Common.{◌≡◌, ℕ, ◌==◌, Bool, true, false, cond, List, Option, Some, None, refl}
use Rattle.lx_abi.specs.declared.outcome.Outcome.{Outcome}
use Rattle.lx_abi.specs.declared.ptrace.Reply.{Reply}
use Rattle.lx_abi.specs.declared.ptrace.Reply.TheVariants.{Done as Agreed, Status as Status_is, Registers as Registers_are, Bytes as Bytes_are, Message as Message_is, Info as Info_is, Outcome as Outcome_is, Errno as Errno_is, OutOfTurns as Out_of_turns, Refused as Boot_refused}
use Rattle.lx_abi.specs.declared.status.Stop.{Stop}
use Rattle.lx_abi.specs.declared.status.Stop.TheVariants.{Syscall as Syscall_stop, Signal as Signal_stop, Group as Group_stop, Event as Event_stop, Ended}
use Rattle.lx_abi.specs.Status.{stop_of}
use Rattle.lx_model.specs.Kernel.{Script}
use Rattle.pt_model.specs.Parts.{Options}
use Rattle.pt_model.specs.Replies.{WholeIsTold, OutOfTurnsIsTold}
use Rattle.pt_model.specs.Tracer.{Known, Awaiting, Focus, Booting, Waiting, Serving, Asking_outcome, Over, Turns_over, Faulted, Tracer, focus_on, hears, took_status, admits_at, next_at, next}

-- neither whole nor out of turns
abbrev GoesOn : Focus → Type 0
GoesOn f = ((x : Outcome) → f ≡ Over x → ⊥) × (f ≡ Turns_over → ⊥)

on_focus : (p : ℕ) (place : Option Awaiting) → GoesOn (focus_on p place)
on_focus p (Some place) = (λ x e. absurd cc, λ e. absurd cc)
on_focus p None = (λ x e. absurd cc, λ e. absurd cc)

on_status : (o : Options) (known : ℕ → Known) (p : ℕ) (stop : Option Stop) → GoesOn (took_status o known p stop).focus
on_status o known p None = (λ x e. absurd cc, λ e. absurd cc)
on_status o known p (Some (Syscall_stop good)) = (λ x e. absurd cc, λ e. absurd cc)
on_status o known p (Some (Signal_stop signal)) = (λ x e. absurd cc, λ e. absurd cc)
on_status o known p (Some (Group_stop signal)) = (λ x e. absurd cc, λ e. absurd cc)
on_status o known p (Some (Event_stop event)) = (λ x e. absurd cc, λ e. absurd cc)
on_status o known p (Some (Ended word)) = (λ x e. absurd cc, λ e. absurd cc)

on_errno : (b : Bool) → GoesOn (cond b Asking_outcome Waiting)
on_errno true = (λ x e. absurd cc, λ e. absurd cc)
on_errno false = (λ x e. absurd cc, λ e. absurd cc)

-- what an admitted reply leads to
record Leads (f : Focus) (r : Reply) (to : Focus) : Type 0 where
  whole : (x : Outcome) → to ≡ Over x → (f ≡ Asking_outcome) × (r ≡ Outcome_is x)
  out : to ≡ Turns_over → r ≡ Out_of_turns

goes_on : (f : Focus) (r : Reply) (to : Focus) → GoesOn to → Leads f r to
goes_on f r to g = record { whole = λ x e. absurd (g.0 x e); out = λ e. absurd (g.1 e) }

out_of_turns : (f : Focus) → Leads f Out_of_turns Turns_over
out_of_turns f = record { whole = λ x e. absurd cc; out = λ e. refl }

leads : (o : Options) (script : Script) (known : ℕ → Known) (tracees : List ℕ) (f : Focus) (r : Reply) → admits_at o known tracees f r ≡ true → Leads f r (next_at o script known f r).focus
leads o script known tracees Booting Agreed a = goes_on Booting Agreed _ (λ x e. absurd cc, λ e. absurd cc)
leads o script known tracees Booting (Status_is q status) a = absurd (cc a)
leads o script known tracees Booting (Registers_are r) a = absurd (cc a)
leads o script known tracees Booting (Bytes_are bytes) a = absurd (cc a)
leads o script known tracees Booting (Message_is q) a = absurd (cc a)
leads o script known tracees Booting (Info_is i) a = absurd (cc a)
leads o script known tracees Booting (Outcome_is y) a = absurd (cc a)
leads o script known tracees Booting (Errno_is n) a = absurd (cc a)
leads o script known tracees Booting Out_of_turns a = absurd (cc a)
leads o script known tracees Booting (Boot_refused fault) a = absurd (cc a)
leads o script known tracees Waiting Agreed a = absurd (cc a)
leads o script known tracees Waiting (Status_is q status) a = goes_on _ _ _ (on_status o known q (stop_of status.word))
leads o script known tracees Waiting (Registers_are r) a = absurd (cc a)
leads o script known tracees Waiting (Bytes_are bytes) a = absurd (cc a)
leads o script known tracees Waiting (Message_is q) a = absurd (cc a)
leads o script known tracees Waiting (Info_is i) a = absurd (cc a)
leads o script known tracees Waiting (Outcome_is y) a = absurd (cc a)
leads o script known tracees Waiting (Errno_is n) a = goes_on _ _ _ (on_errno (n == 10))
leads o script known tracees Waiting Out_of_turns a = out_of_turns Waiting
leads o script known tracees Waiting (Boot_refused fault) a = absurd (cc a)
leads o script known tracees (Serving p place) Agreed a = goes_on _ _ _ (on_focus p (hears o script p (known p) place Agreed).next)
leads o script known tracees (Serving p place) (Status_is q status) a = goes_on _ _ _ (on_focus p (hears o script p (known p) place (Status_is q status)).next)
leads o script known tracees (Serving p place) (Registers_are r) a = goes_on _ _ _ (on_focus p (hears o script p (known p) place (Registers_are r)).next)
leads o script known tracees (Serving p place) (Bytes_are bytes) a = goes_on _ _ _ (on_focus p (hears o script p (known p) place (Bytes_are bytes)).next)
leads o script known tracees (Serving p place) (Message_is q) a = goes_on _ _ _ (on_focus p (hears o script p (known p) place (Message_is q)).next)
leads o script known tracees (Serving p place) (Info_is i) a = goes_on _ _ _ (on_focus p (hears o script p (known p) place (Info_is i)).next)
leads o script known tracees (Serving p place) (Outcome_is y) a = goes_on _ _ _ (on_focus p (hears o script p (known p) place (Outcome_is y)).next)
leads o script known tracees (Serving p place) (Errno_is n) a = goes_on _ _ _ (on_focus p (hears o script p (known p) place (Errno_is n)).next)
leads o script known tracees (Serving p place) Out_of_turns a = out_of_turns (Serving p place)
leads o script known tracees (Serving p place) (Boot_refused fault) a = goes_on _ _ _ (on_focus p (hears o script p (known p) place (Boot_refused fault)).next)
leads o script known tracees Asking_outcome Agreed a = absurd (cc a)
leads o script known tracees Asking_outcome (Status_is q status) a = absurd (cc a)
leads o script known tracees Asking_outcome (Registers_are r) a = absurd (cc a)
leads o script known tracees Asking_outcome (Bytes_are bytes) a = absurd (cc a)
leads o script known tracees Asking_outcome (Message_is q) a = absurd (cc a)
leads o script known tracees Asking_outcome (Info_is i) a = absurd (cc a)
leads o script known tracees Asking_outcome (Outcome_is y) a = record { whole = λ x e. (refl, cc); out = λ e. absurd cc }
leads o script known tracees Asking_outcome (Errno_is n) a = absurd (cc a)
leads o script known tracees Asking_outcome Out_of_turns a = out_of_turns Asking_outcome
leads o script known tracees Asking_outcome (Boot_refused fault) a = absurd (cc a)
leads o script known tracees (Over z) Agreed a = absurd (cc a)
leads o script known tracees (Over z) (Status_is q status) a = absurd (cc a)
leads o script known tracees (Over z) (Registers_are r) a = absurd (cc a)
leads o script known tracees (Over z) (Bytes_are bytes) a = absurd (cc a)
leads o script known tracees (Over z) (Message_is q) a = absurd (cc a)
leads o script known tracees (Over z) (Info_is i) a = absurd (cc a)
leads o script known tracees (Over z) (Outcome_is y) a = absurd (cc a)
leads o script known tracees (Over z) (Errno_is n) a = absurd (cc a)
leads o script known tracees (Over z) Out_of_turns a = absurd (cc a)
leads o script known tracees (Over z) (Boot_refused fault) a = absurd (cc a)
leads o script known tracees Turns_over Agreed a = absurd (cc a)
leads o script known tracees Turns_over (Status_is q status) a = absurd (cc a)
leads o script known tracees Turns_over (Registers_are r) a = absurd (cc a)
leads o script known tracees Turns_over (Bytes_are bytes) a = absurd (cc a)
leads o script known tracees Turns_over (Message_is q) a = absurd (cc a)
leads o script known tracees Turns_over (Info_is i) a = absurd (cc a)
leads o script known tracees Turns_over (Outcome_is y) a = absurd (cc a)
leads o script known tracees Turns_over (Errno_is n) a = absurd (cc a)
leads o script known tracees Turns_over Out_of_turns a = absurd (cc a)
leads o script known tracees Turns_over (Boot_refused fault) a = absurd (cc a)
leads o script known tracees Faulted Agreed a = absurd (cc a)
leads o script known tracees Faulted (Status_is q status) a = absurd (cc a)
leads o script known tracees Faulted (Registers_are r) a = absurd (cc a)
leads o script known tracees Faulted (Bytes_are bytes) a = absurd (cc a)
leads o script known tracees Faulted (Message_is q) a = absurd (cc a)
leads o script known tracees Faulted (Info_is i) a = absurd (cc a)
leads o script known tracees Faulted (Outcome_is y) a = absurd (cc a)
leads o script known tracees Faulted (Errno_is n) a = absurd (cc a)
leads o script known tracees Faulted Out_of_turns a = absurd (cc a)
leads o script known tracees Faulted (Boot_refused fault) a = absurd (cc a)

by_admission : (o : Options) (script : Script) (t : Tracer) (r : Reply) (b : Bool) → admits_at o t.known t.tracees t.focus r ≡ b → Leads t.focus r (next o script t r).tracer.focus
by_admission o script t r true a = rw a (leads o script t.known t.tracees t.focus r a)
by_admission o script t r false a = rw a (record { whole = λ x e. absurd cc; out = λ e. absurd cc })

pub whole_is_told : WholeIsTold
whole_is_told o script t r x e = (by_admission o script t r (admits_at o t.known t.tracees t.focus r) refl).whole x e

pub out_of_turns_is_told : OutOfTurnsIsTold
out_of_turns_is_told o script t r e = (by_admission o script t r (admits_at o t.known t.tracees t.focus r) refl).out e
