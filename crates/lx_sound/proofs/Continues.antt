-- SIGCONT isn't lost.
use Rattle.std.proofs.Common.{◌≡◌, ℕ, Bool, true, false, cond, Option, Some, None, refl, ap, sym, subst, ◌∙◌, arith}
use Rattle.std.proofs.lemmas.Bool.Decides.{nat_tests}
use Rattle.std.specs.Prelude.{◌==◌, ◌||◌, is_some, not}
use Rattle.std.specs.Cmp.{nat_cmp_total}
use Rattle.std.specs.FinMap as maps
use Rattle.lx_abi.specs.declared.log.Cause.{Cause}
use Rattle.lx_abi.specs.declared.signal.Signal.{Signal}
use Rattle.lx_abi.specs.Log.{entries, items_of}
use Rattle.lx_model.specs.Kernel.{Kernel, put, traces, choice_at, kernel_turn, with_child, after_turn}
use Rattle.lx_model.specs.Turn.{Out, turn, killed_or, wakes}
use Rattle.lx_model.specs.declared.event.PtraceEvent.{PtraceEvent}
use Rattle.lx_model.specs.declared.event.PtraceEvent.TheVariants.{Plain, Execed, Forked}
use Rattle.lx_model.specs.declared.stage.Stage.{Stage}
use Rattle.lx_model.specs.declared.stage.Stage.TheVariants.{Born, Stopped}
use Rattle.lx_model.specs.declared.stage.Task.TheVariants as task
use Rattle.lx_sig.specs.Pending.{continued, sent as sent_signal, was_continued, without_opposites}
use Rattle.lx_sig.specs.declared.state.Job.{Job}
use Rattle.lx_sig.specs.declared.state.Job.TheVariants.{Free, AtStop}
use Rattle.lx_sig.specs.declared.state.Signals.{Signals}
use Rattle.lx_proc.specs.Sending.{receives, sent}
use Rattle.lx_proc.specs.State.{Entries, changed_entry, with_entries}
use Rattle.lx_proc.specs.declared.state.Entry.{Entry}
use Rattle.lx_proc.specs.declared.state.Shared.{Shared}
use Rattle.lx_proc.specs.declared.state.UserState.{UserState}
use Rattle.lx_pcalls.specs.Stops.{is_continued_at}
use Rattle.lx_turn.specs.Linux.{linux}
use Rattle.lx_turn.specs.Reactions.{is_killed}
use Rattle.lx_kernel.specs.Blocking.{can_turn}
use Rattle.lx_sound.specs.Jobs.{is_at_stop, JobFits, GoesOn, ContinueWakes, ContinuesStay, sigcont}
use Rattle.lx_sound.specs.Sound.{Agree}
use Rattle.lx_sound.proofs.Maps.{there_now}
use Rattle.lx_sound.proofs.Jobs.{KeepsJob, SameJob, added_job, opposites_job}
use Rattle.lx_sound.proofs.Stops.{turns_both}
use Rattle.lx_sound.proofs.Turns.{turns_stay_sound}

noted : (j : Job) → is_at_stop j ≡ true → was_continued (continued j) ≡ true
noted Free h = absurd (cc h)
noted (AtStop c) h = refl

sent_continue : (g : Signals) (cause : Cause) → (sent_signal g 18 cause).job ≡ continued g.job
unfolding sent_signal
sent_continue g cause = ap continued (added_job (without_opposites g 18) 18 cause ∙ opposites_job g 18)

-- who is stopped is noted to be continued
reached : (m : Entries) (p : ℕ) (b : UserState) (signal : Signal) (cause : Cause) (o : Option Entry) → maps.get m p ≡ o → Agree o (task.Alive b (Stopped signal)) → JobFits o (task.Alive b (Stopped signal)) →
    is_continued_at (maps.get (changed_entry m p (λ e. receives e sigcont cause) o) p) ≡ true
reached m p b signal cause None there agrees fits = absurd agrees
reached m p b signal cause (Some e) there agrees fits =
    ap is_continued_at (there_now nat_cmp_total m p (receives e sigcont cause)) ∙ ap was_continued (sent_continue e.signals cause) ∙ noted e.signals.job fits

may_turn : (continued killed : Bool) → continued ≡ true → (not (not continued) || killed) ≡ true
may_turn true killed h = refl
may_turn false killed h = absurd (cc h)

goes_on : (s : Shared) (child p : ℕ) (b : UserState) (signal : Signal) → is_continued_at (maps.get s.entries p) ≡ true → GoesOn s child p b signal
unfolding can_turn
goes_on s child p b signal on = record {
  can = may_turn (is_continued_at (maps.get s.entries p)) (is_killed (maps.get s.entries p)) on;
  wakes = λ c alive. ap (λ x. killed_or x linux c s child p b (Stopped signal)) alive ∙ ap (λ x. wakes x linux s p b signal) on;
}

pub continue_wakes : ContinueWakes
continue_wakes k p b signal cause sound jobs is =
    let o = maps.get k.shared.entries p in
    goes_on (with_entries k.shared (sent k.shared.entries p sigcont cause)) k.child p b signal
    (reached k.shared.entries p b signal cause o refl (subst (Agree o) is (sound.agree p)) (subst (JobFits o) is (jobs p)))

-- Turns of others.

child_entries : (k : Kernel Shared UserState) (e : PtraceEvent UserState) → (with_child k e).shared ≡ k.shared
child_entries k Plain = refl
child_entries k Execed = refl
child_entries k (Forked b) = refl

still_noted : (o o' : Option Entry) → SameJob o o' → is_some o' ≡ true → is_continued_at o ≡ true → is_continued_at o' ≡ true
still_noted o None same some h = absurd (cc some)
still_noted None (Some e') same some h = absurd same
still_noted (Some e) (Some e') same some h = go e.signals.job e'.signals.job same h
  where
    go : (j j' : Job) → KeepsJob j j' → was_continued j ≡ true → was_continued j' ≡ true
    go Free j' keeps h = absurd (cc h)
    go (AtStop c) Free keeps h = absurd keeps
    go (AtStop c) (AtStop d) keeps h = keeps h

there_if : (o : Option Entry) (b : UserState) (stage : Stage) → Agree o (task.Alive b stage) → is_some o ≡ true
there_if None b stage agrees = absurd agrees
there_if (Some e) b stage agrees = refl

some_noted : (o : Option Entry) → is_continued_at o ≡ true → is_some o ≡ true
some_noted None h = h
some_noted (Some e) h = refl

module _ (k : Kernel Shared UserState) (p q : ℕ) (o : Out Shared UserState) (ne : (p == q) ≡ false) (b : UserState) (stage : Stage) (is : k.tasks q ≡ task.Alive b stage) where
  other_task : put k.tasks p o.task q ≡ task.Alive b stage
  other_task = ap (λ t. cond t o.task (k.tasks q)) ne ∙ is

  lives_on : (e : PtraceEvent UserState) → (c : UserState) × (to : Stage) × ((with_child (after_turn k p o) e).tasks q ≡ task.Alive c to)
  lives_on Plain = (b, stage, other_task)
  lives_on Execed = (b, stage, other_task)
  lives_on (Forked newborn) = go (k.child == q) refl
    where
      go : (t : Bool) → (k.child == q) ≡ t → (c : UserState) × (to : Stage) × ((with_child (after_turn k p o) (Forked newborn)).tasks q ≡ task.Alive c to)
      go true eq = (newborn, Born, ap (λ t. cond t (task.Alive newborn Born) (put k.tasks p o.task q)) eq)
      go false other = (b, stage, ap (λ t. cond t (task.Alive newborn Born) (put k.tasks p o.task q)) other ∙ other_task)

differ : (p q : ℕ) → (q ≡ p → ⊥) → (p == q) ≡ false
differ p q ne = go (p == q) refl
  where
    go : (t : Bool) → (p == q) ≡ t → (p == q) ≡ false
    go true eq = absurd (ne (grind (arith, nat_tests, eq)))
    go false other = other

pub continues_stay : ContinuesStay
continues_stay script follow k p q sound jobs ne on b stage is =
    let o : Out Shared UserState = turn linux (choice_at linux script (traces follow p) (λ n. entries p n (items_of k.log)) (k.tasks p)) k.shared k.child p (k.tasks p) in
    let after : Kernel Shared UserState = kernel_turn linux script follow k p in
    let shared : after.shared ≡ o.shared = child_entries (after_turn k p o) o.event in
    let alive = lives_on k p q o (differ p q ne) b stage is o.event in
    let there : is_some (maps.get after.shared.entries q) ≡ true = there_if (maps.get after.shared.entries q) alive.0 alive.1 (subst (Agree (maps.get after.shared.entries q)) alive.2 ((turns_stay_sound script follow k p sound).agree q)) in
    still_noted (maps.get k.shared.entries q) (maps.get after.shared.entries q)
    (subst (λ (s : Shared). SameJob (maps.get k.shared.entries q) (maps.get s.entries q)) (sym shared) ((turns_both script follow k p sound jobs).0 q ne (some_noted (maps.get k.shared.entries q) on)))
    there on
