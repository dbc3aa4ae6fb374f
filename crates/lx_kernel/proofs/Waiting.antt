-- A call waits exactly where it would block and nothing interrupts it.
use Rattle.std.proofs.Common.{◌≡◌, ℕ, Bool, true, false, Option, Some, None, refl, ap, sym, ◌∙◌, arith}
use Rattle.std.specs.Prelude.{◌==◌, ◌&&◌, ◌||◌, not}
use Rattle.std.specs.Option.{unwrap_or}
use Rattle.std.specs.FinMap as maps
use Rattle.std.proofs.lemmas.Bool.Decides.{nat_tests}
use Rattle.lx_abi.specs.Errnos.{enosys}
use Rattle.lx_abi.specs.declared.log.Call.{Call}
use Rattle.lx_model.specs.Machine.{Refused, Returns, Jumps, Execs, Bears, Blocks, Ends}
use Rattle.lx_proc.specs.declared.state.Shared.{Shared}
use Rattle.lx_proc.specs.declared.state.UserState.{UserState}
use Rattle.lx_proc.specs.Answers.{Answers, is_blocked}
use Rattle.lx_fcalls.specs.Calls.{file_call}
use Rattle.lx_fcalls.specs.Blocking.{would_block as file_would_block, passes}
use Rattle.lx_pcalls.specs.Calls.{process_call, would_block as process_would_block, is_blocked_if}
use Rattle.lx_pcalls.specs.Interruption.{is_interrupted, interruptible, blocks_or_returns}
use Rattle.lx_kernel.specs.Blocking.{would_block}
use Rattle.lx_turn.specs.Calls.{does, called}
use Rattle.lx_fcalls.proofs.FileBlocking.{file_blocks}
use Rattle.lx_pcalls.proofs.Blocking.{process_blocks}

blocked_or_returned : (s : Shared) (b : UserState) (interrupted : Bool) → is_blocked (blocks_or_returns s b interrupted) ≡ not interrupted
blocked_or_returned s b true = refl
blocked_or_returned s b false = refl

interrupted_waits : (s : Shared) (p : ℕ) (b : UserState) (a : Answers) → is_blocked (interruptible s p b a) ≡ (is_blocked a && not (is_interrupted (maps.get s.entries p)))
interrupted_waits s p b (Refused e) = refl
interrupted_waits s p b (Returns t c x) = refl
interrupted_waits s p b (Jumps t c) = refl
interrupted_waits s p b (Execs t c) = refl
interrupted_waits s p b (Bears t c born) = refl
interrupted_waits s p b Blocks = blocked_or_returned s b (is_interrupted (maps.get s.entries p))
interrupted_waits s p b (Ends w) = refl

-- wait4 is no call on files
numbered : (n : ℕ) → (n == 260) ≡ true → n ≡ 260
numbered n h = grind (arith, nat_tests)

no_file_call : (s : Shared) (p : ℕ) (call : Call) (b : UserState) → call.number ≡ 260 → file_call s p call b ≡ None
unfolding file_call
no_file_call s p call b h = rw h refl

other_by : (s : Shared) (p : ℕ) (call : Call) (b : UserState) (a : Answers) (is : Bool) → (call.number == 260) ≡ is → file_call s p call b ≡ Some a → process_would_block s p call ≡ false
unfolding process_would_block
other_by s p call b a true h e = let none : ◌≡◌ {A = Option Answers} None (Some a) = sym (no_file_call s p call b (numbered call.number h)) ∙ e in absurd (cc none)
other_by s p call b a false h e = rw h refl

process_waits : (o : Option Answers) → is_blocked (unwrap_or o (Refused enosys)) ≡ is_blocked_if o
process_waits None = refl
process_waits (Some a) = refl

or_false : (b : Bool) → (b || false) ≡ b
or_false true = refl
or_false false = refl

called_waits : (s : Shared) (child p : ℕ) (call : Call) (b : UserState) (o : Option Answers) → file_call s p call b ≡ o → is_blocked (unwrap_or o (unwrap_or (process_call s child p call b) (Refused enosys))) ≡ (file_would_block s p call b || process_would_block s p call)
called_waits s child p call b None e =
    process_waits (process_call s child p call b) ∙ process_blocks s child p call b
    ∙ ap (λ w. w || process_would_block s p call) (sym (sym (file_blocks s p call b) ∙ ap (passes is_blocked) e))
called_waits s child p call b (Some a) e =
    sym (or_false (is_blocked a))
    ∙ ap (λ w. is_blocked a || w) (sym (other_by s p call b a (call.number == 260) refl e))
    ∙ ap (λ w. w || process_would_block s p call) (sym (sym (file_blocks s p call b) ∙ ap (passes is_blocked) e))

pub does_waits : (s : Shared) (child p : ℕ) (call : Call) (b : UserState) → is_blocked (does s child p call b) ≡ would_block s p call b
unfolding does would_block
does_waits s child p call b =
    interrupted_waits s p b (called s child p call b)
    ∙ ap (λ w. w && not (is_interrupted (maps.get s.entries p))) (called_waits s child p call b (file_call s p call b) refl)
