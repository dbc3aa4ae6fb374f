-- Changes that keep a state sound, while each process stands where it stood.
use Rattle.std.proofs.Common.{◌≡◌, ℕ, suc, ◌≤◌, Bool, true, false, cond, List, Option, Some, None, refl, sym, subst, ◌∙◌, arith, length}
use Rattle.std.specs.Prelude.{is_some, max}
use Rattle.std.specs.declared.result.Result.{Result}
use Rattle.std.specs.declared.result.Result.TheVariants.{Ok}
use Rattle.std.specs.FinMap as maps
use Rattle.rv_mem.specs.Memory.{first_fault, written}
use Rattle.rv_mem.specs.declared.rights.Access.TheVariants as access
use Rattle.lx_model.specs.Machine.{Refused, Returns, Jumps, Execs, Bears, Blocks, Ends}
use Rattle.lx_model.specs.declared.stage.Task.{Task}
use Rattle.lx_model.specs.declared.stage.Task.TheVariants as task
use Rattle.lx_proc.specs.declared.state.Entry.{Entry}
use Rattle.lx_proc.specs.declared.state.ProcessLimits.{ProcessLimits}
use Rattle.lx_proc.specs.declared.state.Shared.{Shared}
use Rattle.lx_proc.specs.declared.state.UserState.{UserState}
use Rattle.lx_proc.specs.State.{Entries, changed, with_entries, with_memory}
use Rattle.lx_proc.specs.Answers.{Answers, unless, given, granted, gives}
use Rattle.lx_proc.specs.WaitWords.{Words}
use Rattle.lx_proc.proofs.Checks as checks
use Rattle.lx_pcalls.specs.Clone.{has_room, with_child, child_entry}
use Rattle.lx_sound.specs.Parts.{lives, EntrySound, EntriesSound, PartsSound}
use Rattle.lx_sound.specs.Sound.{Agree, HasWord, Sound}
use Rattle.lx_sound.proofs.Entries.{SameEntry, SameEntries, entries_stay, entries_then, changed_same, changed_sound}
use Rattle.lx_sound.proofs.Changes.{Change, IsDue, done, parts_done, entered, entries_kept, lives_after, ended_kept, limits_kept}

-- What is kept.

pub record Keeps (s t : Shared) : Type 0 where
  pub parts : PartsSound s → PartsSound t
  pub entries : SameEntries s.entries t.entries
  pub words : t.ended ≡ s.ended
  pub limits : t.limits ≡ s.limits

module _ (s : Shared) where
  pub keeps_all : Keeps s s
  keeps_all = record { parts = λ h. h; entries = entries_stay s.entries; words = refl; limits = refl }

  -- a change that is due, of a process that lives
  pub keeps_done : (p : ℕ) → lives (maps.get s.entries p) ≡ true → (c : Change) → IsDue s p c → Keeps s (done s p c)
  keeps_done p alive c due = record { parts = λ h. parts_done s p h alive c due; entries = entries_kept s p c due; words = ended_kept s p c; limits = limits_kept s p c }

  -- other entries, whoever changes them
  pub entries_keep : (m : Entries) → SameEntries s.entries m → (EntriesSound s.tree s.entries → EntriesSound s.tree m) → Keeps s (with_entries s m)
  entries_keep m same sound = record { parts = λ h. entered s h m same sound; entries = same; words = refl; limits = refl }

  pub changed_keeps : (k : ℕ) (f : Entry → Entry) → ((e : Entry) → (f e).life ≡ e.life) → ((e : Entry) → EntrySound s.tree e → EntrySound s.tree (f e)) → Keeps s (with_entries s (changed s.entries k f))
  changed_keeps k f keeps sound = entries_keep (changed s.entries k f) (changed_same s.entries k f keeps) (changed_sound s.tree s.entries k f sound)

pub keeps_then : (s t u : Shared) → Keeps s t → Keeps t u → Keeps s u
keeps_then s t u h g = record {
  parts = λ x. g.parts (h.parts x);
  entries = entries_then s.entries t.entries u.entries h.entries g.entries;
  words = g.words ∙ h.words;
  limits = g.limits ∙ h.limits;
}

-- one change after another
pub keeps_two : (s : Shared) (p : ℕ) → lives (maps.get s.entries p) ≡ true → (c d : Change) → IsDue s p c → IsDue (done s p c) p d → Keeps s (done (done s p c) p d)
keeps_two s p alive c d due due' = keeps_then s (done s p c) (done (done s p c) p d) (keeps_done s p alive c due) (keeps_done (done s p c) p (lives_after s p c due alive) d due')

module _ (s t : Shared) (tasks : ℕ → Task UserState) (child : ℕ) where
  agree_still : (o o' : Option Entry) (x : Task UserState) → SameEntry o o' → Agree o x → Agree o' x
  agree_still (Some e) (Some e') (task.Alive b stage) same h = same ∙ h
  agree_still (Some e) (Some e') (task.Dying w) same h = same ∙ h
  agree_still (Some e) (Some e') task.Gone same h = (h.0, same ∙ h.1)
  agree_still (Some e) None (task.Alive b stage) same h = absurd (cc (same.1, h))
  agree_still (Some e) None (task.Dying w) same h = absurd (cc (same.1, h))
  agree_still (Some e) None task.Gone same h = tt
  agree_still None (Some e') x same h = absurd same
  agree_still None None x same h = h

  words_still : (q : ℕ) (o : Option Entry) (e' : Entry) → SameEntry o (Some e') → ((e : Entry) → o ≡ Some e → HasWord s.ended q e.life) → HasWord s.ended q e'.life
  words_still q None e' same h = absurd same
  words_still q (Some e) e' same h = subst (HasWord s.ended q) (sym same) (h e refl)

  none_still : (o o' : Option Entry) → SameEntry o o' → o ≡ None → o' ≡ None
  none_still None None same h = refl
  none_still None (Some e') same h = absurd same
  none_still (Some e) o' same h = absurd (cc h)

  pub kept_sound : Keeps s t → Sound s tasks child → Sound t tasks child
  kept_sound keeps h = record {
    parts = keeps.parts h.parts;
    agree = λ q. agree_still (maps.get s.entries q) (maps.get t.entries q) (tasks q) (keeps.entries.each q) (h.agree q);
    words = λ q e' is. subst (λ (w : Words). HasWord w q e'.life) (sym keeps.words)
        (words_still q (maps.get s.entries q) e' (subst (SameEntry (maps.get s.entries q)) is (keeps.entries.each q)) (h.words q));
    live = subst (λ (l : ProcessLimits). maps.len t.entries ≤ max 1 l.live) (sym keeps.limits) (let fewer = keeps.entries.fewer in let live = h.live in omega (arith, fewer, live));
    last = subst (λ (l : ProcessLimits). child ≤ suc (max 1 l.last_pid)) (sym keeps.limits) h.last;
    pids = λ q le. none_still (maps.get s.entries q) (maps.get t.entries q) (keeps.entries.each q) (h.pids q le);
    pages = h.pages;
  }

-- Answers.

-- what a call does, beside the ends of processes: a child has a new entry, and its parent's descriptors
abbrev pub DoesKeep : ℕ → Shared → ℕ → Answers → Type 0
DoesKeep child s p (Refused e) = Unit {0}
DoesKeep child s p (Returns t b x) = Keeps s t
DoesKeep child s p (Jumps t b) = Keeps s t
DoesKeep child s p (Execs t b) = Keeps s t
DoesKeep child s p (Bears t b newborn) = (e : Entry) × EntrySound s.tree (child_entry e p) × (has_room s child ≡ true) × (t ≡ with_child s child p (child_entry e p))
DoesKeep child s p Blocks = Unit {0}
DoesKeep child s p (Ends w) = Unit {0}

module _ (child : ℕ) (s : Shared) (p : ℕ) where
  abbrev pub Kept : Answers → Type 0
  Kept a = DoesKeep child s p a

  abbrev pub KeptIf : Option Answers → Type 0
  KeptIf None = Unit {0}
  KeptIf (Some a) = Kept a

  pub either_kept : (test : Bool) (x y : Answers) → Kept x → (test ≡ false → Kept y) → Kept (cond test x y)
  either_kept test x y h g = checks.either Kept test x y (λ is. h) g

  pub unless_kept : (test : Bool) (e : ℕ) (a : Answers) → (test ≡ true → Kept a) → Kept (unless test e a)
  unless_kept test e a h = checks.checked Kept test e a tt h

  pub given_kept : {A : Type 0} (o : Option A) (e : ℕ) (f : A → Answers) → ((x : A) → o ≡ Some x → Kept (f x)) → Kept (given o e f)
  given_kept o e f h = checks.named Kept o e f tt h

  pub granted_kept : {A : Type 0} (r : Result A ℕ) (f : A → Answers) → ((x : A) → r ≡ Ok x → Kept (f x)) → Kept (granted r f)
  granted_kept r f h = checks.allowed Kept r f (checks.of_any (λ e. Unit {0}) (λ e. tt) r) h

  pub gives_kept : (t : Shared) (b : UserState) (at : ℕ) (bytes : List ℕ) (result : ℕ) → Keeps s t → Kept (gives t b at bytes result)
  gives_kept t b at bytes result h = either_kept (is_some (first_fault access.Write b.memory at (length bytes))) _ (Returns t (with_memory b (written b.memory at bytes)) result) tt (λ e. h)
