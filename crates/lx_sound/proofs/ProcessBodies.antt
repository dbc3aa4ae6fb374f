-- The calls on processes, memory and signals leave memories within the most pages.
use Rattle.std.proofs.Common.{ℕ, Bool, true, false, cond, List, length, Option}
use Rattle.std.specs.Prelude.{◌==◌, not, is_some}
use Rattle.std.specs.Int.{w64, to_le_bytes}
use Rattle.std.specs.declared.result.Result.{Result}
use Rattle.std.specs.declared.result.Result.TheVariants.{Ok, Err}
use Rattle.rv_mem.specs.Memory.{Memory, first_fault, written}
use Rattle.rv_mem.specs.declared.rights.Access.TheVariants as access
use Rattle.elf_image.specs.Images.{image_of}
use Rattle.lx_abi.specs.Errnos.{einval, efault}
use Rattle.lx_abi.specs.declared.log.Call.{Call}
use Rattle.lx_sig.specs.Calls as signals
use Rattle.lx_sig.specs.Calls.{Outcome}
use Rattle.lx_sig.specs.Pending.{action_of}
use Rattle.lx_sig.specs.Sigaction.{action_bytes, new_action, may_set, with_action, acted, sigaction}
use Rattle.lx_sig.specs.Sigprocmask.{new_set, may_mask, with_mask, mask_changed, sigprocmask}
use Rattle.lx_sig.specs.declared.state.Action.{Action}
use Rattle.lx_sig.specs.declared.state.Signals.{Signals}
use Rattle.lx_proc.specs.declared.state.Shared.{Shared}
use Rattle.lx_proc.specs.declared.state.UserState.{UserState}
use Rattle.lx_proc.specs.Answers.{argument, low_argument}
use Rattle.lx_pcalls.specs.Signals.{leaves}
use Rattle.lx_pcalls.proofs.ProcessAnswers.{OfProcesses}
use Rattle.lx_sound.specs.Pages.{HasFewPages}
use Rattle.lx_sound.proofs.Pages.{written_few, unmapped_few, within_few, program_few, image_laid_out}
use Rattle.lx_sound.proofs.Bodies.{LeavesFew}

-- what a call of signals leaves
abbrev OutcomeFew : Outcome → Type 0
OutcomeFew (Err e) = Unit {0}
OutcomeFew (Ok c) = HasFewPages c.memory

abbrev ResultFew : Result Memory ℕ → Type 0
ResultFew (Err e) = Unit {0}
ResultFew (Ok m) = HasFewPages m

leaves_outcome : (r : Result Memory ℕ) (g : Signals) → ResultFew r → OutcomeFew (signals.leaves r g)
leaves_outcome (Err e) g few = tt
leaves_outcome (Ok m) g few = few

either_result : (b : Bool) (x y : Result Memory ℕ) → ResultFew x → ResultFew y → ResultFew (cond b x y)
either_result true x y h g = h
either_result false x y h g = g

either_outcome : (b : Bool) (x y : Outcome) → OutcomeFew x → OutcomeFew y → OutcomeFew (cond b x y)
either_outcome true x y h g = h
either_outcome false x y h g = g

module _ (m : Memory) (few : HasFewPages m) where
  given_result : (a : ℕ) (bytes : List ℕ) → ResultFew (signals.given m a bytes)
  given_result a bytes = either_result (a == 0) (Ok m) _ few (either_result (is_some (first_fault access.Write m a (length bytes))) (Err efault) (Ok (written m a bytes)) tt (written_few m a bytes few))

  acted_outcome : (g : Signals) (n : ℕ) (new : Option Action) (old : ℕ) → OutcomeFew (acted g m n new old)
  unfolding acted
  acted_outcome g n new old =
      either_outcome (may_set n new) (signals.leaves (signals.given m old (action_bytes (action_of g n))) (with_action g n new)) (Err einval) (leaves_outcome (signals.given m old (action_bytes (action_of g n))) (with_action g n new) (given_result old (action_bytes (action_of g n)))) tt

  sigaction_outcome : (g : Signals) (call : Call) → OutcomeFew (sigaction g m call)
  unfolding sigaction
  sigaction_outcome g call =
      either_outcome (not (argument call 3 == 8)) (Err einval) _ tt (either_outcome (signals.is_unreadable m (argument call 1) 24) (Err efault) (acted g m (low_argument call 0) (new_action m (argument call 1)) (argument call 2)) tt
      (acted_outcome g (low_argument call 0) (new_action m (argument call 1)) (argument call 2)))

  changed_outcome : (g : Signals) (how : ℕ) (new : Option ℕ) (old : ℕ) → OutcomeFew (mask_changed g m how new old)
  unfolding mask_changed
  changed_outcome g how new old = either_outcome (may_mask how new) (signals.leaves (signals.given m old (to_le_bytes w64 g.mask)) (with_mask g how new)) (Err einval) (leaves_outcome (signals.given m old (to_le_bytes w64 g.mask)) (with_mask g how new) (given_result old (to_le_bytes w64 g.mask))) tt

  sigprocmask_outcome : (g : Signals) (call : Call) → OutcomeFew (sigprocmask g m call)
  unfolding sigprocmask
  sigprocmask_outcome g call =
      either_outcome (not (argument call 3 == 8)) (Err einval) _ tt (either_outcome (signals.is_unreadable m (argument call 1) 8) (Err efault) (mask_changed g m (argument call 0) (new_set m (argument call 1)) (argument call 2)) tt
      (changed_outcome g (argument call 0) (new_set m (argument call 1)) (argument call 2)))

leaves_few : (s : Shared) (p : ℕ) (b : UserState) (o : Outcome) → OutcomeFew o → LeavesFew (leaves s p b o)
leaves_few s p b (Err e) h = tt
leaves_few s p b (Ok c) h = h

pub processes_few : (s : Shared) (child p : ℕ) (call : Call) (b : UserState) → HasFewPages b.memory → OfProcesses s child p call b LeavesFew
processes_few s child p call b few = record {
  refuses = λ e listed. tt;
  waits = λ k. tt;
  returns = λ x. few;
  loses = λ a n heap x. unmapped_few b.memory a n few;
  gains = λ m heap x fits. within_few m fits;
  acts = λ e there k. leaves_few s p b (sigaction e.signals b.memory call) (sigaction_outcome b.memory few e.signals call);
  masks = λ e there k. leaves_few s p b (sigprocmask e.signals b.memory call) (sigprocmask_outcome b.memory few e.signals call);
  restores = λ e there. few;
  sends = λ a k is. few;
  tells = λ n found k. few;
  writes = λ n at bytes found k. written_few b.memory at bytes few;
  bears = λ e there is room. (few, few);
  execs = λ content argv env is whole. program_few (image_of content) argv env (image_laid_out content whole);
  ends = λ is. tt;
}
