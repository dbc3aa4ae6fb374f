-- The calls on processes, memory and signals keep a state sound.
use Rattle.std.proofs.Common.{◌≡◌, ℕ, Bool, true, false, cond, Option, Some, None, refl, sym, subst}
use Rattle.std.specs.FinMap as maps
use Rattle.std.specs.declared.result.Result.TheVariants.{Ok, Err}
use Rattle.lx_abi.specs.declared.log.Call.{Call}
use Rattle.lx_abi.specs.declared.log.Cause.TheVariants.{Sent}
use Rattle.lx_abi.specs.declared.signal.Signal.{Signal}
use Rattle.lx_sig.specs.Calls.{Outcome}
use Rattle.lx_sig.specs.Frames.{frame_at, popped_mask}
use Rattle.lx_sig.specs.Reactions.{after_exec}
use Rattle.lx_sig.specs.Sigaction.{sigaction}
use Rattle.lx_sig.specs.Sigprocmask.{sigprocmask}
use Rattle.lx_sig.specs.declared.state.Signals.{Signals}
use Rattle.lx_files.specs.declared.tree.Tree.{Tree}
use Rattle.lx_open.specs.Releases.{Held, closed_on_exec}
use Rattle.lx_proc.specs.declared.state.Entry.{Entry}
use Rattle.lx_proc.specs.declared.state.Life.{Life}
use Rattle.lx_proc.specs.declared.state.Life.TheVariants.{Alive, Dying, Zombie}
use Rattle.lx_proc.specs.declared.state.Shared.{Shared}
use Rattle.lx_proc.specs.declared.state.UserState.{UserState}
use Rattle.lx_proc.specs.Families.{is_zombie}
use Rattle.lx_proc.specs.State.{changed, with_entries, with_news, with_signals, with_signals_at}
use Rattle.lx_exec.specs.Execve.{renewed}
use Rattle.lx_pcalls.specs.Kill.{sends, sent_to}
use Rattle.lx_pcalls.specs.Signals.{leaves}
use Rattle.lx_pcalls.specs.Wait4.{told_child, told_entry}
use Rattle.lx_sound.specs.Masks.{AreSignals}
use Rattle.lx_sound.specs.Parts.{lives, EntrySound, PartsSound}
use Rattle.lx_pcalls.proofs.ProcessAnswers.{OfProcesses}
use Rattle.lx_sound.proofs.Masks.{IsLeft, exec_signals, child_signals, popped_signals, sigaction_signals, sigprocmask_signals}
use Rattle.lx_sound.proofs.Together.{exec_together}
use Rattle.lx_sound.proofs.Reached.{exec_reached}
use Rattle.lx_sound.proofs.Fewer.{exec_fewer}
use Rattle.lx_sound.proofs.Entries.{SameEntry, taken_same, taken_sound, signals_sound, received_sound}
use Rattle.lx_sound.proofs.Changes.{Loses, done}
use Rattle.lx_sound.proofs.Keeping.{Keeps, keeps_all, keeps_done, keeps_then, entries_keep, changed_keeps, DoesKeep}

-- signals of a process are others
signals_keep : (s : Shared) (p : ℕ) (signals : Signals) → AreSignals signals → Keeps s (with_signals_at s p signals)
signals_keep s p signals within = changed_keeps s p (λ e. with_signals e signals) (λ e. refl) (λ e h. signals_sound s.tree e signals within h)

sent_life : (e : Entry) (l : Life) (p : ℕ) (signal : Signal) → (sent_to e l p signal).life ≡ e.life
sent_life e Alive p signal = refl
sent_life e (Dying w) p signal = refl
sent_life e (Zombie w) p signal = refl

sent_sound : (tree : Tree) (e : Entry) (l : Life) (p : ℕ) (signal : Signal) → EntrySound tree e → EntrySound tree (sent_to e l p signal)
sent_sound tree e Alive p signal h = received_sound tree e signal (Sent p) h
sent_sound tree e (Dying w) p signal h = h
sent_sound tree e (Zombie w) p signal h = h

sends_keep : (s : Shared) (p target : ℕ) (signal : Option Signal) → Keeps s (sends s p target signal)
sends_keep s p target None = keeps_all s
sends_keep s p target (Some signal) = changed_keeps s target (λ e. sent_to e e.life p signal) (λ e. sent_life e e.life p signal) (λ e h. sent_sound s.tree e e.life p signal h)

zombie_is : (life : Life) → is_zombie life ≡ true → (w : ℕ) × (life ≡ Zombie w)
zombie_is Alive h = absurd (cc h)
zombie_is (Dying w) h = absurd (cc h)
zombie_is (Zombie w) h = (w, refl)

-- a child that was told of leaves the table as a zombie, or has no news
told_keeps : (s : Shared) (n : ℕ) → Keeps s (told_child s n)
told_keeps s n = told (maps.get s.entries n) refl
  where
    told : (o : Option Entry) → maps.get s.entries n ≡ o → Keeps s (with_entries s (told_entry s.entries n o))
    told None there = keeps_all s
    told (Some e) there = go (is_zombie e.life) refl
      where
        go : (b : Bool) → is_zombie e.life ≡ b → Keeps s (with_entries s (cond b (maps.remove s.entries n) (changed s.entries n (λ e. with_news e None))))
        go true zombie =
            entries_keep s (maps.remove s.entries n)
            (taken_same s.entries n (subst (λ o. SameEntry o None) (sym there) (zombie_is e.life zombie))) (taken_sound s.tree s.entries n)
        go false other = changed_keeps s n (λ e. with_news e None) (λ e. refl) (λ e h. record { directory = h.directory; signals = h.signals })

renewed_keeps : (s : Shared) (p : ℕ) → lives (maps.get s.entries p) ≡ true → Keeps s (renewed s p)
renewed_keeps s p alive =
    let left : Held = closed_on_exec s.tree s.fds p in
    let shut : Shared = done s p (Loses left) in
    keeps_then s shut (renewed s p)
    (keeps_done s p alive (Loses left) ((λ x. exec_together s.tree s.fds x p), exec_fewer s.tree s.fds p, (λ x. exec_reached s.tree s.fds x p)))
    (changed_keeps shut p (λ e. with_signals e (after_exec e.signals)) (λ e. refl) (λ e h. signals_sound left.tree e (after_exec e.signals) (exec_signals e.signals h.signals) h))

leaves_kept : (child : ℕ) (s : Shared) (p : ℕ) (b : UserState) (o : Outcome) → IsLeft o → DoesKeep child s p (leaves s p b o)
leaves_kept child s p b (Err e) left = tt
leaves_kept child s p b (Ok c) left = signals_keep s p c.signals left

pub processes_kept : (child : ℕ) (s : Shared) (p : ℕ) (call : Call) (b : UserState) → PartsSound s → lives (maps.get s.entries p) ≡ true → OfProcesses s child p call b (DoesKeep child s p)
processes_kept child s p call b h alive = record {
  refuses = λ e listed. tt;
  waits = λ k. tt;
  returns = λ x. keeps_all s;
  loses = λ a n heap x. keeps_all s;
  gains = λ m heap x fits. keeps_all s;
  acts = λ e there k. leaves_kept child s p b (sigaction e.signals b.memory call) (sigaction_signals e.signals (h.entries p e there).signals b.memory call);
  masks = λ e there k. leaves_kept child s p b (sigprocmask e.signals b.memory call) (sigprocmask_signals e.signals (h.entries p e there).signals b.memory call);
  restores = λ e there. signals_keep s p (popped_mask e.signals (frame_at b.memory b.hart)) (popped_signals e.signals (h.entries p e there).signals (frame_at b.memory b.hart));
  sends = λ a k is. sends_keep s p a.pid a.signal;
  tells = λ n found k. told_keeps s n;
  writes = λ n at bytes found k. told_keeps s n;
  bears = λ e there k room. (e, record { directory = (h.entries p e there).directory; signals = child_signals e.signals (h.entries p e there).signals }, room, refl);
  execs = λ content argv env k whole. renewed_keeps s p alive;
  ends = λ k. tt;
}
