-- What is looked at first is the definition.
use Rattle.std.proofs.Common.{◌≡◌, ℕ, Bool, true, false, cond, ◌&&◌, List, None, refl}
use Rattle.lx_abi.specs.declared.ptrace.Reply.{Reply}
use Rattle.lx_abi.specs.declared.ptrace.Reply.TheVariants.{Done as Agreed, Status as Status_is, Registers as Registers_are, Bytes as Bytes_are, Message as Message_is, Info as Info_is, Outcome as Outcome_is, Errno as Errno_is, OutOfTurns as Out_of_turns, Refused as Boot_refused}
use Rattle.lx_model.specs.Kernel.{Script}
use Rattle.pt_model.specs.Parts.{Options}
use Rattle.pt_model.specs.Tracer.{Known, Next, Awaiting, Seizing, heard, says_done, next_at, tracees_after, admits_at}
use Rattle.pt_model.specs.Tracer as tracer
use Rattle.tr_core.specs.Known.{place_of}
use Rattle.tr_core.specs.Tracers.{focus_of}
use Rattle.tr_core.specs.Admitted.{told_status, says_childless, says_out, told_outcome, waits_by, serves_by, is_seizing, tracees_by_reply, tracees_by_status, ends_by, next_by, tracees_by}
use Rattle.tr_core.specs.declared.place.Focus.{Focus}
use Rattle.tr_core.specs.declared.place.Focus.TheVariants as focus

asking : (o : Options) (known : ℕ → Known) (b : Bool) → tracer.stays known (cond b tracer.Asking_outcome tracer.Waiting) ≡ waits_by o known None b false
asking o known true = refl
asking o known false = refl

waits-is : (o : Options) (script : Script) (known : ℕ → Known) (r : Reply) → next_at o script known tracer.Waiting r ≡ waits_by o known (told_status r) (says_childless r) (says_out r)
waits-is o script known Agreed = refl
waits-is o script known (Status_is q status) = refl
waits-is o script known (Registers_are regs) = refl
waits-is o script known (Bytes_are bytes) = refl
waits-is o script known (Message_is q) = refl
waits-is o script known (Info_is i) = refl
waits-is o script known (Outcome_is x) = refl
waits-is o script known (Errno_is n) = asking o known (says_childless (Errno_is n))
waits-is o script known Out_of_turns = refl
waits-is o script known (Boot_refused fault) = refl

serves-is : (o : Options) (script : Script) (known : ℕ → Known) (p : ℕ) (place : Awaiting) (r : Reply) → next_at o script known (tracer.Serving p place) r ≡ serves_by o script known p place r (says_out r)
serves-is o script known p place Agreed = refl
serves-is o script known p place (Status_is q status) = refl
serves-is o script known p place (Registers_are regs) = refl
serves-is o script known p place (Bytes_are bytes) = refl
serves-is o script known p place (Message_is q) = refl
serves-is o script known p place (Info_is i) = refl
serves-is o script known p place (Outcome_is x) = refl
serves-is o script known p place (Errno_is n) = refl
serves-is o script known p place Out_of_turns = refl
serves-is o script known p place (Boot_refused fault) = refl

ends-is : (o : Options) (script : Script) (known : ℕ → Known) (r : Reply) → next_at o script known tracer.Asking_outcome r ≡ ends_by known (told_outcome r) (says_out r)
ends-is o script known Agreed = refl
ends-is o script known (Status_is q status) = refl
ends-is o script known (Registers_are regs) = refl
ends-is o script known (Bytes_are bytes) = refl
ends-is o script known (Message_is q) = refl
ends-is o script known (Info_is i) = refl
ends-is o script known (Outcome_is x) = refl
ends-is o script known (Errno_is n) = refl
ends-is o script known Out_of_turns = refl
ends-is o script known (Boot_refused fault) = refl

seizes-is : (tracees : List ℕ) (p : ℕ) (place : Awaiting) (r : Reply) → tracees_after tracees (tracer.Serving p place) r ≡ tracees_by_reply tracees p (is_seizing place && says_done r)
seizes-is tracees p Seizing Agreed = refl
seizes-is tracees p Seizing (Status_is q status) = refl
seizes-is tracees p Seizing (Registers_are regs) = refl
seizes-is tracees p Seizing (Bytes_are bytes) = refl
seizes-is tracees p Seizing (Message_is q) = refl
seizes-is tracees p Seizing (Info_is i) = refl
seizes-is tracees p Seizing (Outcome_is x) = refl
seizes-is tracees p Seizing (Errno_is n) = refl
seizes-is tracees p Seizing Out_of_turns = refl
seizes-is tracees p Seizing (Boot_refused fault) = refl
seizes-is tracees p tracer.Entry_regs reply = refl
seizes-is tracees p (tracer.Entry_peek r got w) reply = refl
seizes-is tracees p (tracer.Entry_set r m) reply = refl
seizes-is tracees p tracer.Exit_regs reply = refl
seizes-is tracees p (tracer.Exit_set r y) reply = refl
seizes-is tracees p (tracer.Exit_peek y replaced got w) reply = refl
seizes-is tracees p (tracer.Signal_info m) reply = refl
seizes-is tracees p (tracer.Resuming m) reply = refl
seizes-is tracees p tracer.Listening reply = refl

tells-is : (tracees : List ℕ) (r : Reply) → tracees_after tracees tracer.Waiting r ≡ tracees_by_status tracees (told_status r)
tells-is tracees Agreed = refl
tells-is tracees (Status_is q status) = refl
tells-is tracees (Registers_are regs) = refl
tells-is tracees (Bytes_are bytes) = refl
tells-is tracees (Message_is q) = refl
tells-is tracees (Info_is i) = refl
tells-is tracees (Outcome_is x) = refl
tells-is tracees (Errno_is n) = refl
tells-is tracees Out_of_turns = refl
tells-is tracees (Boot_refused fault) = refl

pub next-is : (o : Options) (script : Script) (known : ℕ → Known) (tracees : List ℕ) (f : Focus) (r : Reply) → admits_at o known tracees (focus_of f) r ≡ true → next_at o script known (focus_of f) r ≡ next_by o script known f r
next-is o script known tracees focus.Booting r e = refl
next-is o script known tracees focus.Waiting r e = waits-is o script known r
next-is o script known tracees (focus.Serving p place) r e = serves-is o script known p (place_of place) r
next-is o script known tracees focus.AskingOutcome r e = ends-is o script known r
next-is o script known tracees (focus.Over x) r e = absurd (cc e)
next-is o script known tracees focus.TurnsOver r e = absurd (cc e)
next-is o script known tracees focus.Faulted r e = absurd (cc e)

pub tracees-is : (o : Options) (known : ℕ → Known) (tracees : List ℕ) (f : Focus) (r : Reply) → admits_at o known tracees (focus_of f) r ≡ true → tracees_after tracees (focus_of f) r ≡ tracees_by tracees f r
tracees-is o known tracees focus.Booting r e = refl
tracees-is o known tracees focus.Waiting r e = tells-is tracees r
tracees-is o known tracees (focus.Serving p place) r e = seizes-is tracees p (place_of place) r
tracees-is o known tracees focus.AskingOutcome r e = refl
tracees-is o known tracees (focus.Over x) r e = absurd (cc e)
tracees-is o known tracees focus.TurnsOver r e = absurd (cc e)
tracees-is o known tracees focus.Faulted r e = absurd (cc e)
