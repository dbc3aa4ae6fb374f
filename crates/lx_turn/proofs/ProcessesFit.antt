-- The answers of calls on processes, memory and signals fit.
use Rattle.std.proofs.Common.{◌≡◌, ℕ, ◌≤◌, Bool, true, false, Option, Some, None, refl, arith}
use Rattle.std.specs.Prelude.{◌==◌, ◌&&◌, ◌||◌, nat_le}
use Rattle.std.proofs.lemmas.Bool.Decides.{nat_tests}
use Rattle.std.specs.declared.result.Result.TheVariants.{Ok, Err}
use Rattle.lx_abi.specs.Calls.{calls, has_effects}
use Rattle.lx_abi.specs.Effects.{forks, execs, exits}
use Rattle.lx_abi.specs.declared.log.Call.{Call}
use Rattle.lx_abi.specs.declared.signal.Signal.{Signal}
use Rattle.lx_sig.specs.Calls.{Outcome}
use Rattle.lx_sig.specs.Sigaction.{sigaction}
use Rattle.lx_sig.specs.Sigprocmask.{sigprocmask}
use Rattle.lx_proc.specs.declared.state.Shared.{Shared}
use Rattle.lx_proc.specs.declared.state.UserState.{UserState}
use Rattle.lx_pcalls.specs.Kill.{sends}
use Rattle.lx_pcalls.specs.Signals.{leaves}
use Rattle.lx_turn.specs.Fitting.{Fits}
use Rattle.lx_pcalls.proofs.ProcessAnswers.{OfProcesses}

left_is : (x y : Bool) → x ≡ true → (x || y) ≡ true
left_is true y h = refl
left_is false y h = absurd (cc h)

leaves_fit : (s : Shared) (child p : ℕ) (call : Call) (b : UserState) (o : Outcome) → Fits child s call (leaves s p b o)
leaves_fit s child p call b (Err e) = tt
leaves_fit s child p call b (Ok c) = refl

sent_words : (s : Shared) (p target : ℕ) (signal : Option Signal) → (sends s p target signal).ended ≡ s.ended
sent_words s p target None = refl
sent_words s p target (Some signal) = refl

-- a child's pid is not over the last
left_by : (child last_pid : ℕ) (t : Bool) → (t && nat_le child last_pid) ≡ true → child ≤ last_pid
left_by child last_pid true h = grind (arith, nat_tests)
left_by child last_pid false h = absurd (cc h)

module _ (n : ℕ) where
  clone_forks : (n == 220) ≡ true → has_effects n forks ≡ true
  unfolding has_effects calls
  clone_forks e = left_is (n == 220) false e

  execve_execs : (n == 221) ≡ true → has_effects n execs ≡ true
  unfolding has_effects calls
  execve_execs e = left_is (n == 221) false e

  exits_exit : (a b : Bool) → (a || b) ≡ true → (a || (b || false)) ≡ true
  exits_exit true b h = refl
  exits_exit false true h = refl
  exits_exit false false h = h

  exit_exits : (n == 93 || n == 94) ≡ true → has_effects n exits ≡ true
  unfolding has_effects calls
  exit_exits e = exits_exit (n == 93) (n == 94) e

pub process_fits : (child : ℕ) (s : Shared) (p : ℕ) (call : Call) (b : UserState) → OfProcesses s child p call b (Fits child s call)
process_fits child s p call b = record {
  refuses = λ e listed. tt;
  waits = λ k. tt;
  returns = λ x. refl;
  loses = λ a n heap x. refl;
  gains = λ m heap x fits. refl;
  acts = λ e there k. leaves_fit s child p call b (sigaction e.signals b.memory call);
  masks = λ e there k. leaves_fit s child p call b (sigprocmask e.signals b.memory call);
  restores = λ e there. refl;
  sends = λ a k is. sent_words s p a.pid a.signal;
  tells = λ n found k. refl;
  writes = λ n at bytes found k. refl;
  bears = λ e there is room. record { words = refl; console = refl; left = left_by child s.limits.last_pid _ room; call_forks = clone_forks call.number is };
  execs = λ content argv env is whole. (refl, execve_execs call.number is);
  ends = λ is. (exit_exits call.number is, refl);
}
