-- No call on files but read and write blocks.
use Rattle.std.proofs.Common.{◌≡◌, ℕ, Bool, true, false, Option, Some, None, refl, sym, ◌∙◌, arith}
use Rattle.std.specs.Prelude.{◌==◌, ◌||◌}
use Rattle.std.specs.Option.{unwrap_or}
use Rattle.std.proofs.lemmas.Bool.Decides.{nat_tests}
use Rattle.lx_abi.specs.declared.log.Call.{Call}
use Rattle.lx_model.specs.Machine.{Refused}
use Rattle.lx_proc.specs.declared.state.Shared.{Shared}
use Rattle.lx_proc.specs.declared.state.UserState.{UserState}
use Rattle.lx_proc.specs.Answers.{Answers, is_blocked}
use Rattle.lx_fcalls.specs.Blocking.{passes, would_block}
use Rattle.lx_fcalls.specs.Calls.{file_call}
use Rattle.lx_fcalls.proofs.BlockingLaws.{read_blocks, write_blocks}
use Rattle.lx_fcalls.proofs.FileAnswers.{OfFiles, files_hold}

is_number : (a b : ℕ) → (a == b) ≡ true → a ≡ b
is_number a b h = grind (arith, nat_tests)

passes_as : (o : Option Answers) (e : ℕ) → passes is_blocked o ≡ is_blocked (unwrap_or o (Refused e))
passes_as None e = refl
passes_as (Some a) e = refl

module _ (s : Shared) (p : ℕ) (call : Call) (b : UserState) where
  abbrev PassesOn : Answers → Type 0
  PassesOn a = (call.number == 63 || call.number == 64) ≡ false → is_blocked a ≡ false

  pass_on : OfFiles s p call b PassesOn
  pass_on = record {
    refuses = λ e listed other. refl;
    waits = λ k other. absurd (cc (k, other));
    returns = λ tree fds input console x other. refl;
    writes = λ tree fds input console at bytes x other. refl;
    goes = λ path other. refl;
    breaks = λ other. refl;
  }

  read_at : call.number ≡ 63 → passes is_blocked (file_call s p call b) ≡ would_block s p call b
  unfolding file_call would_block
  read_at h = rw h (read_blocks s p (record { number = 63; arguments = call.arguments }) b)

  write_at : call.number ≡ 64 → passes is_blocked (file_call s p call b) ≡ would_block s p call b
  unfolding file_call would_block
  write_at h = rw h (write_blocks s p (record { number = 64; arguments = call.arguments }) b)

  other_at : (call.number == 63) ≡ false → (call.number == 64) ≡ false → passes is_blocked (file_call s p call b) ≡ would_block s p call b
  unfolding would_block
  other_at e e' = passes_as (file_call s p call b) 0 ∙ files_hold s p call b PassesOn pass_on (Refused 0) (λ other. refl) (rw (e, e') refl) ∙ sym (rw (e, e') refl)

  -- a call on files blocks where it would, and nowhere else
  pub file_blocks : passes is_blocked (file_call s p call b) ≡ would_block s p call b
  file_blocks = at (call.number == 63) (call.number == 64) refl refl
    where
      at : (reads writes : Bool) → (call.number == 63) ≡ reads → (call.number == 64) ≡ writes → passes is_blocked (file_call s p call b) ≡ would_block s p call b
      at true writes e e' = read_at (is_number call.number 63 e)
      at false true e e' = write_at (is_number call.number 64 e')
      at false false e e' = other_at e e'
