-- A reply that is admitted is of a kind that answers its request.
use Rattle.std.proofs.Common.{◌≡◌, ℕ, true, List, Some, refl, subst}
use Rattle.lx_abi.specs.declared.ptrace.Ask.{Ask}
use Rattle.lx_abi.specs.declared.ptrace.Ask.TheVariants.{Seize, SetOptions, GetRegs, SetRegs, Peek, Syscall, EventMsg, SigInfo, Listen}
use Rattle.lx_abi.specs.declared.ptrace.Reply.{Reply}
use Rattle.lx_abi.specs.declared.ptrace.Reply.TheVariants.{Done as Agreed, Status as Status_is, Registers as Registers_are, Bytes as Bytes_are, Message as Message_is, Info as Info_is, Outcome as Outcome_is, Errno as Errno_is, OutOfTurns as Out_of_turns, Refused as Boot_refused}
use Rattle.lx_abi.specs.declared.ptrace.Request.{Request}
use Rattle.pt_model.specs.Parts.{Options}
use Rattle.pt_model.specs.Admissible.{answers_ask, answers, admits_answer}
use Rattle.pt_model.specs.Tracer.{Known, asks, Focus, Booting, Waiting, Serving, Asking_outcome, Over, Turns_over, Faulted, request, admits_at}
use Rattle.pt_model.specs.Replies.{AdmittedRepliesAnswer}

kind_of : (q : Ask) (r : Reply) → admits_answer q r ≡ true → answers_ask q r ≡ true
kind_of (Seize a) Agreed h = refl
kind_of (Seize a) (Status_is v z) h = absurd (cc h)
kind_of (Seize a) (Registers_are v) h = absurd (cc h)
kind_of (Seize a) (Bytes_are v) h = absurd (cc h)
kind_of (Seize a) (Message_is v) h = absurd (cc h)
kind_of (Seize a) (Info_is v) h = absurd (cc h)
kind_of (Seize a) (Outcome_is v) h = absurd (cc h)
kind_of (Seize a) (Errno_is v) h = absurd (cc h)
kind_of (Seize a) Out_of_turns h = refl
kind_of (Seize a) (Boot_refused v) h = absurd (cc h)
kind_of (SetOptions a) Agreed h = refl
kind_of (SetOptions a) (Status_is v z) h = absurd (cc h)
kind_of (SetOptions a) (Registers_are v) h = absurd (cc h)
kind_of (SetOptions a) (Bytes_are v) h = absurd (cc h)
kind_of (SetOptions a) (Message_is v) h = absurd (cc h)
kind_of (SetOptions a) (Info_is v) h = absurd (cc h)
kind_of (SetOptions a) (Outcome_is v) h = absurd (cc h)
kind_of (SetOptions a) (Errno_is v) h = refl
kind_of (SetOptions a) Out_of_turns h = refl
kind_of (SetOptions a) (Boot_refused v) h = absurd (cc h)
kind_of GetRegs Agreed h = absurd (cc h)
kind_of GetRegs (Status_is v z) h = absurd (cc h)
kind_of GetRegs (Registers_are v) h = refl
kind_of GetRegs (Bytes_are v) h = absurd (cc h)
kind_of GetRegs (Message_is v) h = absurd (cc h)
kind_of GetRegs (Info_is v) h = absurd (cc h)
kind_of GetRegs (Outcome_is v) h = absurd (cc h)
kind_of GetRegs (Errno_is v) h = refl
kind_of GetRegs Out_of_turns h = refl
kind_of GetRegs (Boot_refused v) h = absurd (cc h)
kind_of (SetRegs a) Agreed h = refl
kind_of (SetRegs a) (Status_is v z) h = absurd (cc h)
kind_of (SetRegs a) (Registers_are v) h = absurd (cc h)
kind_of (SetRegs a) (Bytes_are v) h = absurd (cc h)
kind_of (SetRegs a) (Message_is v) h = absurd (cc h)
kind_of (SetRegs a) (Info_is v) h = absurd (cc h)
kind_of (SetRegs a) (Outcome_is v) h = absurd (cc h)
kind_of (SetRegs a) (Errno_is v) h = refl
kind_of (SetRegs a) Out_of_turns h = refl
kind_of (SetRegs a) (Boot_refused v) h = absurd (cc h)
kind_of (Peek a b) Agreed h = absurd (cc h)
kind_of (Peek a b) (Status_is v z) h = absurd (cc h)
kind_of (Peek a b) (Registers_are v) h = absurd (cc h)
kind_of (Peek a b) (Bytes_are v) h = refl
kind_of (Peek a b) (Message_is v) h = absurd (cc h)
kind_of (Peek a b) (Info_is v) h = absurd (cc h)
kind_of (Peek a b) (Outcome_is v) h = absurd (cc h)
kind_of (Peek a b) (Errno_is v) h = refl
kind_of (Peek a b) Out_of_turns h = refl
kind_of (Peek a b) (Boot_refused v) h = absurd (cc h)
kind_of (Syscall a) Agreed h = refl
kind_of (Syscall a) (Status_is v z) h = absurd (cc h)
kind_of (Syscall a) (Registers_are v) h = absurd (cc h)
kind_of (Syscall a) (Bytes_are v) h = absurd (cc h)
kind_of (Syscall a) (Message_is v) h = absurd (cc h)
kind_of (Syscall a) (Info_is v) h = absurd (cc h)
kind_of (Syscall a) (Outcome_is v) h = absurd (cc h)
kind_of (Syscall a) (Errno_is v) h = refl
kind_of (Syscall a) Out_of_turns h = refl
kind_of (Syscall a) (Boot_refused v) h = absurd (cc h)
kind_of EventMsg Agreed h = absurd (cc h)
kind_of EventMsg (Status_is v z) h = absurd (cc h)
kind_of EventMsg (Registers_are v) h = absurd (cc h)
kind_of EventMsg (Bytes_are v) h = absurd (cc h)
kind_of EventMsg (Message_is v) h = refl
kind_of EventMsg (Info_is v) h = absurd (cc h)
kind_of EventMsg (Outcome_is v) h = absurd (cc h)
kind_of EventMsg (Errno_is v) h = refl
kind_of EventMsg Out_of_turns h = refl
kind_of EventMsg (Boot_refused v) h = absurd (cc h)
kind_of SigInfo Agreed h = absurd (cc h)
kind_of SigInfo (Status_is v z) h = absurd (cc h)
kind_of SigInfo (Registers_are v) h = absurd (cc h)
kind_of SigInfo (Bytes_are v) h = absurd (cc h)
kind_of SigInfo (Message_is v) h = absurd (cc h)
kind_of SigInfo (Info_is v) h = refl
kind_of SigInfo (Outcome_is v) h = absurd (cc h)
kind_of SigInfo (Errno_is v) h = refl
kind_of SigInfo Out_of_turns h = refl
kind_of SigInfo (Boot_refused v) h = absurd (cc h)
kind_of Listen Agreed h = refl
kind_of Listen (Status_is v z) h = absurd (cc h)
kind_of Listen (Registers_are v) h = absurd (cc h)
kind_of Listen (Bytes_are v) h = absurd (cc h)
kind_of Listen (Message_is v) h = absurd (cc h)
kind_of Listen (Info_is v) h = absurd (cc h)
kind_of Listen (Outcome_is v) h = absurd (cc h)
kind_of Listen (Errno_is v) h = refl
kind_of Listen Out_of_turns h = refl
kind_of Listen (Boot_refused v) h = absurd (cc h)

module _ (o : Options) (known : ℕ → Known) (tracees : List ℕ) where
  abbrev Answers : Focus → Request → Reply → Type 0
  Answers focus q r = request o focus ≡ Some q → admits_at o known tracees focus r ≡ true → answers q r ≡ true

  request_is : (a b : Request) → Some a ≡ Some b → a ≡ b
  request_is a b e = cc

  at_focus : (focus : Focus) (q : Request) (r : Reply) → Answers focus q r
  at_focus Waiting q Agreed e h = absurd (cc h)
  at_focus Waiting q (Status_is v z) e h = subst (λ x. answers x (Status_is v z) ≡ true) (request_is _ _ e) refl
  at_focus Waiting q (Registers_are v) e h = absurd (cc h)
  at_focus Waiting q (Bytes_are v) e h = absurd (cc h)
  at_focus Waiting q (Message_is v) e h = absurd (cc h)
  at_focus Waiting q (Info_is v) e h = absurd (cc h)
  at_focus Waiting q (Outcome_is v) e h = absurd (cc h)
  at_focus Waiting q (Errno_is v) e h = subst (λ x. answers x (Errno_is v) ≡ true) (request_is _ _ e) refl
  at_focus Waiting q Out_of_turns e h = subst (λ x. answers x Out_of_turns ≡ true) (request_is _ _ e) refl
  at_focus Waiting q (Boot_refused v) e h = absurd (cc h)
  at_focus (Serving p place) q r e h = subst (λ x. answers x r ≡ true) (request_is _ _ e) (kind_of (asks o place) r h)
  at_focus Asking_outcome q Agreed e h = absurd (cc h)
  at_focus Asking_outcome q (Status_is v z) e h = absurd (cc h)
  at_focus Asking_outcome q (Registers_are v) e h = absurd (cc h)
  at_focus Asking_outcome q (Bytes_are v) e h = absurd (cc h)
  at_focus Asking_outcome q (Message_is v) e h = absurd (cc h)
  at_focus Asking_outcome q (Info_is v) e h = absurd (cc h)
  at_focus Asking_outcome q (Outcome_is v) e h = subst (λ x. answers x (Outcome_is v) ≡ true) (request_is _ _ e) refl
  at_focus Asking_outcome q (Errno_is v) e h = absurd (cc h)
  at_focus Asking_outcome q Out_of_turns e h = subst (λ x. answers x Out_of_turns ≡ true) (request_is _ _ e) refl
  at_focus Asking_outcome q (Boot_refused v) e h = absurd (cc h)
  at_focus Booting q r e h = absurd (cc e)
  at_focus (Over x) q r e h = absurd (cc h)
  at_focus Turns_over q r e h = absurd (cc h)
  at_focus Faulted q r e h = absurd (cc h)

pub admitted_replies_answer : AdmittedRepliesAnswer
admitted_replies_answer o t q r e h = at_focus o t.known t.tracees t.focus q r e h
