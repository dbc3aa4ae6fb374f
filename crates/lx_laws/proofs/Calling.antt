-- Each call keeps families.
use Rattle.std.proofs.Common.{◌≡◌, ℕ, ◌<◌, Bool, true, false, Option, Some, None, refl}
use Rattle.std.specs.FinMap as maps
use Rattle.std.specs.declared.result.Result.TheVariants.{Ok, Err}
use Rattle.lx_abi.specs.Errnos.{enosys}
use Rattle.lx_abi.specs.declared.log.Call.{Call}
use Rattle.lx_abi.specs.declared.log.Cause.TheVariants.{Sent}
use Rattle.lx_abi.specs.declared.signal.Signal.{Signal}
use Rattle.lx_model.specs.Machine.{Refused, Returns, Jumps, Execs, Bears, Blocks, Ends}
use Rattle.lx_sig.specs.Calls.{Outcome}
use Rattle.lx_sig.specs.Frames.{frame_at, popped_mask}
use Rattle.lx_sig.specs.Pending.{with_pending}
use Rattle.lx_sig.specs.Reactions.{after_exec}
use Rattle.lx_sig.specs.Sigaction.{sigaction}
use Rattle.lx_sig.specs.Sigprocmask.{sigprocmask}
use Rattle.lx_proc.specs.Answers.{Answers}
use Rattle.lx_proc.specs.declared.state.Entry.{Entry}
use Rattle.lx_proc.specs.declared.state.Life.{Life}
use Rattle.lx_proc.specs.declared.state.Life.TheVariants.{Alive, Dying, Zombie}
use Rattle.lx_proc.specs.declared.state.Shared.{Shared}
use Rattle.lx_proc.specs.declared.state.UserState.{UserState}
use Rattle.lx_fcalls.specs.Write.{sigpipe}
use Rattle.lx_fcalls.proofs.FileAnswers.{OfFiles, files_hold}
use Rattle.lx_pcalls.specs.Interruption.{interruptible, blocks_or_returns, is_interrupted}
use Rattle.lx_pcalls.specs.Kill.{sends, sent_to}
use Rattle.lx_pcalls.specs.Signals.{leaves}
use Rattle.lx_pcalls.proofs.ProcessAnswers.{OfProcesses, processes_hold}
use Rattle.lx_turn.specs.Calls.{does, called}
use Rattle.lx_laws.specs.Families.{has_not_ended, AreFamilies}
use Rattle.lx_laws.proofs.Turning.{LeavesIn}
use Rattle.lx_laws.proofs.Kin.{IsKin, same_entry, families_stay, changed_kin, signals_kin, told_kin, born_families}

abbrev KeepFamilies : Shared → Type 0
KeepFamilies t = AreFamilies t.entries

sent_to_kin : (e : Entry) (l : Life) (p : ℕ) (signal : Signal) → IsKin e (sent_to e l p signal)
sent_to_kin e Alive p signal = record { parent = refl; ended = refl; quiet = λ h. h }
sent_to_kin e (Dying w) p signal = same_entry e
sent_to_kin e (Zombie w) p signal = same_entry e

module _ (child : ℕ) (s : Shared) (p : ℕ) (call : Call) (b : UserState) (h : AreFamilies s.entries)
    (lower : p < child) (vacant : maps.get s.entries child ≡ None) (here : has_not_ended (maps.get s.entries p) ≡ true) where
  abbrev Left : Answers → Type 0
  Left = LeavesIn KeepFamilies

  sends_families : (target : ℕ) (signal : Option Signal) → AreFamilies (sends s p target signal).entries
  sends_families target None = h
  sends_families target (Some signal) = families_stay s.entries _ h (changed_kin s.entries target (λ e. sent_to e e.life p signal) (λ e there. sent_to_kin e e.life p signal))

  leaves_families : (o : Outcome) → Left (leaves s p b o)
  leaves_families (Err error) = tt
  leaves_families (Ok c) = families_stay s.entries _ h (signals_kin s.entries p (λ e. c.signals))

  of_files : OfFiles s p call b Left
  of_files = record {
    refuses = λ e listed. tt;
    waits = λ k. tt;
    returns = λ tree fds input console x. h;
    writes = λ tree fds input console at bytes x. h;
    goes = λ path. families_stay s.entries _ h (changed_kin s.entries p (λ e. record e { directory = path }) (λ e there. record { parent = refl; ended = refl; quiet = λ q. q }));
    breaks = families_stay s.entries _ h (signals_kin s.entries p (λ e. with_pending e.signals sigpipe (Sent p)));
  }

  of_processes : OfProcesses s child p call b Left
  of_processes = record {
    refuses = λ e listed. tt;
    waits = λ k. tt;
    returns = λ x. h;
    loses = λ a n heap x. h;
    gains = λ m heap x fits. h;
    acts = λ e there k. leaves_families (sigaction e.signals b.memory call);
    masks = λ e there k. leaves_families (sigprocmask e.signals b.memory call);
    restores = λ e there. families_stay s.entries _ h (signals_kin s.entries p (λ x. popped_mask e.signals (frame_at b.memory b.hart)));
    sends = λ a k is. sends_families a.pid a.signal;
    tells = λ n found k. families_stay s.entries _ h (told_kin s n);
    writes = λ n at bytes found k. families_stay s.entries _ h (told_kin s n);
    bears = λ e there k room. born_families s.entries p child e h lower vacant here;
    execs = λ content argv env k whole. families_stay s.entries _ h (signals_kin s.entries p (λ e. after_exec e.signals));
    ends = λ k. tt;
  }

  interrupted : (t : Bool) → Left (blocks_or_returns s b t)
  interrupted true = h
  interrupted false = tt

  interrupts : (a : Answers) → Left a → Left (interruptible s p b a)
  interrupts (Refused e) g = g
  interrupts (Returns t c x) g = g
  interrupts (Jumps t c) g = g
  interrupts (Execs t c) g = g
  interrupts (Bears t c newborn) g = g
  interrupts Blocks g = interrupted (is_interrupted (maps.get s.entries p))
  interrupts (Ends w) g = g

  pub calls_keep_families : Left (does s child p call b)
  unfolding does
  calls_keep_families =
      interrupts (called s child p call b)
      (files_hold s p call b Left of_files _ (processes_hold s child p call b Left of_processes (Refused enosys) tt))
