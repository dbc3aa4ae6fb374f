-- No call on processes, memory or signals but wait4 blocks.
use Rattle.std.proofs.Common.{◌≡◌, ℕ, ◌&&◌, Bool, true, false, cond, List, length, Option, Some, None, is_some, refl, sym, ◌∙◌, arith}
use Rattle.std.specs.Prelude.{not, ◌==◌}
use Rattle.std.specs.declared.result.Result.TheVariants.{Ok, Err}
use Rattle.std.proofs.lemmas.Bool.Decides.{nat_tests}
use Rattle.std.specs.Int.{w32, to_le_bytes}
use Rattle.std.specs.FinMap as maps
use Rattle.rv_mem.specs.Memory.{first_fault}
use Rattle.rv_mem.specs.declared.rights.Access.TheVariants as access
use Rattle.lx_abi.specs.Errnos.{echild, einval}
use Rattle.lx_abi.specs.declared.log.Call.{Call}
use Rattle.lx_model.specs.Machine.{Refused, Returns, Blocks}
use Rattle.lx_sig.specs.Calls.{Outcome}
use Rattle.lx_sig.specs.Sigaction.{sigaction}
use Rattle.lx_sig.specs.Sigprocmask.{sigprocmask}
use Rattle.lx_proc.specs.declared.state.Shared.{Shared}
use Rattle.lx_proc.specs.declared.state.UserState.{UserState}
use Rattle.lx_proc.specs.Answers.{Answers, is_blocked, argument, low_argument, unless, gives}
use Rattle.lx_proc.proofs.Checks as checks
use Rattle.lx_pcalls.specs.Signals.{leaves}
use Rattle.lx_pcalls.specs.Wait4.{wait4, wait4_would_block, may_wait, no_hang, first_child, waits, reaps, told_child, word_in}
use Rattle.lx_pcalls.proofs.ProcessAnswers.{OfProcesses, processes_hold}
use Rattle.std.specs.Option.{unwrap_or}
use Rattle.lx_pcalls.specs.Calls.{process_call, would_block, is_blocked_if}

abbrev Never : Answers → Type 0
Never a = is_blocked a ≡ false

gives_never : (s : Shared) (b : UserState) (at : ℕ) (bytes : List ℕ) (x : ℕ) → Never (gives s b at bytes x)
gives_never s b at bytes x = checks.either Never (is_some (first_fault access.Write b.memory at (length bytes))) _ _ (λ fault. refl) (λ whole. refl)

leaves_never : (s : Shared) (p : ℕ) (b : UserState) (o : Outcome) → is_blocked (leaves s p b o) ≡ false
leaves_never s p b (Err e) = refl
leaves_never s p b (Ok c) = refl

numbered : (a b : ℕ) → (a == b) ≡ true → a ≡ b
numbered a b h = grind (arith, nat_tests)

blocked_as : (o : Option Answers) (e : ℕ) → is_blocked_if o ≡ is_blocked (unwrap_or o (Refused e))
blocked_as None e = refl
blocked_as (Some a) e = refl

module _ (s : Shared) (child p : ℕ) (call : Call) (b : UserState) where
  reaps_never : (n word : ℕ) → is_blocked (reaps s b call n word) ≡ false
  reaps_never n word =
      checks.either Never (argument call 1 == 0) (Returns (told_child s n) b n) _ (λ none. refl)
      (λ some. gives_never (told_child s n) b (argument call 1) (to_le_bytes w32 word) n)

  waits_or : (hangs : Bool) → is_blocked (cond hangs (Returns s b 0) Blocks) ≡ not hangs
  waits_or true = refl
  waits_or false = refl

  unless_both : (h : Bool) (e : ℕ) (a : Answers) (w : Bool) → is_blocked a ≡ w → is_blocked (unless h e a) ≡ (h && w)
  unless_both true e a w is = is
  unless_both false e a w is = refl

  waits_blocks : (o : Option ℕ) → is_blocked (waits s b call o) ≡ (not (no_hang call) && not (is_some o))
  waits_blocks None = waits_or (no_hang call) ∙ sym (with_true (not (no_hang call)))
    where
      with_true : (c : Bool) → (c && true) ≡ c
      with_true true = refl
      with_true false = refl
  waits_blocks (Some n) = checks.named Never (word_in (argument call 2) (maps.get s.entries n)) echild _ refl (λ word is. reaps_never n word) ∙ sym (with_false (not (no_hang call)))
    where
      with_false : (c : Bool) → (c && false) ≡ false
      with_false true = refl
      with_false false = refl

  in_order : (m h o z : Bool) → (m && (o && (h && z))) ≡ (m && h && o && z)
  in_order true true true z = refl
  in_order true true false z = refl
  in_order true false true z = refl
  in_order true false false z = refl
  in_order false h o z = refl

  wait4_blocks : is_blocked (wait4 s p call b) ≡ wait4_would_block s p call
  unfolding wait4 wait4_would_block
  wait4_blocks =
      let any = is_some (first_child s.entries p (low_argument call 0) None) in
      let child = first_child s.entries p (low_argument call 0) (Some (argument call 2)) in
      unless_both (may_wait call) einval _ (any && (not (no_hang call) && not (is_some child)))
      (unless_both any echild _ (not (no_hang call) && not (is_some child)) (waits_blocks child))
      ∙ in_order (may_wait call) (not (no_hang call)) any (not (is_some child))

module _ (s : Shared) (child p : ℕ) (call : Call) (b : UserState) where
  abbrev PassesOn : Answers → Type 0
  PassesOn a = (call.number == 260) ≡ false → is_blocked a ≡ false

  pass_on : OfProcesses s child p call b PassesOn
  pass_on = record {
    refuses = λ e listed other. refl;
    waits = λ k other. absurd (cc (k, other));
    returns = λ x other. refl;
    loses = λ a n heap x other. refl;
    gains = λ m heap x fits other. refl;
    acts = λ e there k other. leaves_never s p b (sigaction e.signals b.memory call);
    masks = λ e there k other. leaves_never s p b (sigprocmask e.signals b.memory call);
    restores = λ e there other. refl;
    sends = λ a k is other. refl;
    tells = λ n found k other. refl;
    writes = λ n at bytes found k other. refl;
    bears = λ e there k room other. refl;
    execs = λ content argv env k whole other. refl;
    ends = λ k other. refl;
  }

  wait4_at : call.number ≡ 260 → is_blocked_if (process_call s child p call b) ≡ would_block s p call
  unfolding process_call would_block
  wait4_at h = rw h (wait4_blocks s child p (record { number = 260; arguments = call.arguments }) b)

  other_at : (call.number == 260) ≡ false → is_blocked_if (process_call s child p call b) ≡ would_block s p call
  unfolding would_block
  other_at e = blocked_as (process_call s child p call b) 0 ∙ processes_hold s child p call b PassesOn pass_on (Refused 0) (λ other. refl) e ∙ sym (rw e refl)

  -- a call on processes blocks where it would, and nowhere else
  pub process_blocks : is_blocked_if (process_call s child p call b) ≡ would_block s p call
  process_blocks = at (call.number == 260) refl
    where
      at : (waits : Bool) → (call.number == 260) ≡ waits → is_blocked_if (process_call s child p call b) ≡ would_block s p call
      at true e = wait4_at (numbered call.number 260 e)
      at false e = other_at e
