-- What rt_sigaction and rt_sigprocmask are refused with.
use Rattle.std.proofs.Common.{ℕ, List, length, Option}
use Rattle.std.specs.Prelude.{◌==◌, is_some, not}
use Rattle.std.specs.Int.{w64, to_le_bytes}
use Rattle.std.specs.declared.result.Result.{Result}
use Rattle.std.specs.declared.result.Result.TheVariants.{Ok, Err}
use Rattle.rv_mem.specs.Memory.{Memory, first_fault, written}
use Rattle.rv_mem.specs.declared.rights.Access.TheVariants as access
use Rattle.lx_abi.specs.Errnos.{efault, einval}
use Rattle.lx_abi.specs.declared.log.Call.{Call}
use Rattle.lx_sig.specs.Calls.{argument, low_argument, given, is_unreadable, leaves}
use Rattle.lx_sig.specs.Pending.{action_of}
use Rattle.lx_sig.specs.Sigaction.{sigaction, acted, action_bytes, may_set, new_action, with_action}
use Rattle.lx_sig.specs.Sigprocmask.{sigprocmask, mask_changed, may_mask, new_set, with_mask}
use Rattle.lx_sig.specs.declared.state.Action.{Action}
use Rattle.lx_sig.specs.declared.state.Signals.{Signals}
use Rattle.lx_proc.proofs.Checks.{OfError}
use Rattle.lx_proc.proofs.Placing.{either_error}

module _ (E : ℕ → Type 0) (inval : E einval) (fault : E efault) where
  given_error : (m : Memory) (a : ℕ) (bytes : List ℕ) → OfError E (given m a bytes)
  given_error m a bytes =
      either_error E (a == 0) (Ok m) _ tt
      (either_error E (is_some (first_fault access.Write m a (length bytes))) (Err efault) (Ok (written m a bytes)) fault tt)

  left_error : (r : Result Memory ℕ) (g : Signals) → OfError E r → OfError E (leaves r g)
  left_error (Err e) g h = h
  left_error (Ok m) g h = tt

  acted_error : (g : Signals) (m : Memory) (n : ℕ) (new : Option Action) (old : ℕ) → OfError E (acted g m n new old)
  unfolding acted
  acted_error g m n new old =
      either_error E (may_set n new) _ (Err einval)
      (left_error (given m old (action_bytes (action_of g n))) (with_action g n new) (given_error m old (action_bytes (action_of g n)))) inval

  pub sigaction_error : (g : Signals) (m : Memory) (call : Call) → OfError E (sigaction g m call)
  unfolding sigaction
  sigaction_error g m call =
      either_error E (not (argument call 3 == 8)) (Err einval) _ inval
      (either_error E (is_unreadable m (argument call 1) 24) (Err efault) _ fault
      (acted_error g m (low_argument call 0) (new_action m (argument call 1)) (argument call 2)))

  masked_error : (g : Signals) (m : Memory) (how : ℕ) (new : Option ℕ) (old : ℕ) → OfError E (mask_changed g m how new old)
  unfolding mask_changed
  masked_error g m how new old =
      either_error E (may_mask how new) _ (Err einval)
      (left_error (given m old (to_le_bytes w64 g.mask)) (with_mask g how new) (given_error m old (to_le_bytes w64 g.mask))) inval

  pub sigprocmask_error : (g : Signals) (m : Memory) (call : Call) → OfError E (sigprocmask g m call)
  unfolding sigprocmask
  sigprocmask_error g m call =
      either_error E (not (argument call 3 == 8)) (Err einval) _ inval
      (either_error E (is_unreadable m (argument call 1) 8) (Err efault) _ fault
      (masked_error g m (argument call 0) (new_set m (argument call 1)) (argument call 2)))
