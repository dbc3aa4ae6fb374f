-- Those who sleep, by the pipes that they read or write.
use Rattle.std.proofs.Common.{◌≡◌, ◌<◌, ◌≤◌, ℕ, Bool, true, false, cond, Option, Some, None, refl, ap, sym, subst, ◌∙◌, arith}
use Rattle.std.proofs.lemmas.Bool.Decides.{nat_tests}
use Rattle.std.specs.Prelude.{◌==◌, ◌&&◌, ◌||◌, nat_le}
use Rattle.std.specs.Option.{unwrap_or}
use Rattle.std.specs.FinMap as maps
use Rattle.containers.specs.Keys.{IsNextKey}
use Rattle.lx_model.specs.declared.event.PtraceEvent.{PtraceEvent}
use Rattle.lx_model.specs.declared.event.PtraceEvent.TheVariants.{Plain, Execed, Forked}
use Rattle.lx_model.specs.declared.stage.Stage.{Stage}
use Rattle.lx_model.specs.declared.stage.Stage.TheVariants.{Born, Run, Faulting, Entered, Doing, Replaced, Acted, Finished, Taken, Dropped, Stopped, Released, Woken}
use Rattle.lx_model.specs.declared.stage.Task.{Task}
use Rattle.lx_model.specs.declared.stage.Task.TheVariants.{Alive, Dying, Gone}
use Rattle.lx_model.specs.Finite.{at}
use Rattle.lx_open.specs.declared.fd_table.FdTable.{FdTable}
use Rattle.lx_pcalls.proofs.Children.{unequal}
use Rattle.lx_proc.specs.Answers.{low_argument}
use Rattle.lx_proc.specs.Pairs.{PairSet, has, Sets, IsNextThat}
use Rattle.lx_proc.specs.declared.state.Shared.{Shared}
use Rattle.lx_proc.specs.declared.state.UserState.{UserState}
use Rattle.lx_kernel.specs.Blocking.{IsBlocked, rests}
use Rattle.lx_kernel.specs.Pipes.{pipe_at, used, used_at, IsApart}
use Rattle.lx_kernel.specs.Scheduling.{Tasks}
use Rattle.lx_kernel.specs.Sleeping.{IsWatched, AreWatched, IsFiled, AreFiled, AreListed, AreApartWatched, AreOthersPairs, SleepsBy, IsSameBut, IsKept, welcomed}
use Rattle.lx_kernel.specs.declared.run_queue.RunQueue.{RunQueue}
use Rattle.lx_kernel.proofs.Placed.{either}
use Rattle.lx_kernel.proofs.Sleeping.{below}

-- Pairs

alike : (n : ℕ) → (n == n) ≡ true
alike n = grind (arith, nat_tests)

other_second : (a b : Bool) (x y : Bool) → b ≡ false → (cond (a && b) x y) ≡ y
other_second true b x y e = ap (λ t. cond t x y) e
other_second false b x y e = refl

-- a pair of one process leaves those of the others
pub pairs_others : (pipe p : ℕ) (there : Bool) (pairs pairs' : PairSet) → Sets pipe p there pairs pairs' → AreOthersPairs p pairs pairs'
pairs_others pipe p there pairs pairs' sets = λ q n ne. sets n q ∙ other_second (n == pipe) (q == p) there (has pairs n q) (unequal q p ne)

pub pair_there : (pipe p : ℕ) (pairs pairs' : PairSet) → Sets pipe p true pairs pairs' → has pairs' pipe p ≡ true
pair_there pipe p pairs pairs' sets = sets pipe p ∙ ap (λ b. cond (b && (p == p)) true (has pairs pipe p)) (alike pipe) ∙ ap (λ b. cond b true (has pairs pipe p)) (alike p)

pub pairs_then : (p : ℕ) (a b c : PairSet) → AreOthersPairs p a b → AreOthersPairs p b c → AreOthersPairs p a c
pairs_then p a b c first second = λ q n ne. second q n ne ∙ first q n ne

pub by_this : (pairs : PairSet) (pipe p : ℕ) → has pairs pipe p ≡ true → SleepsBy pairs (Some pipe) p
by_this pairs pipe p there = λ n is. subst (λ m. has pairs m p ≡ true) (ap (λ o. unwrap_or o pipe) is) there

pub by_none : (pairs : PairSet) (p : ℕ) → SleepsBy pairs None p
by_none pairs p = λ n is. let no : ◌≡◌ {A = Option ℕ} None (Some n) = is in absurd (cc no)

-- Processes

-- who is stopped or gone is in no call
at_rest : (fds : FdTable) (p : ℕ) (b : UserState) (stage : Stage) → rests (Alive b stage) ≡ true → used_at fds p stage ≡ None
at_rest fds p b Born e = refl
at_rest fds p b Run e = refl
at_rest fds p b (Faulting signal cause) e = refl
at_rest fds p b (Entered joined) e = refl
at_rest fds p b (Doing call) e = absurd (cc e)
at_rest fds p b (Replaced call x) e = refl
at_rest fds p b (Acted call x replaced) e = refl
at_rest fds p b Finished e = refl
at_rest fds p b (Taken signal cause) e = refl
at_rest fds p b Dropped e = refl
at_rest fds p b (Stopped signal) e = refl
at_rest fds p b Released e = refl
at_rest fds p b Woken e = refl

pub resting : (s : Shared) (p : ℕ) (task : Task UserState) → rests task ≡ true → used s p task ≡ None
resting s p (Alive b stage) e = at_rest s.fds p b stage e
resting s p (Dying w) e = refl
resting s p Gone e = refl

pub rests_by : (pairs : PairSet) (s : Shared) (p : ℕ) (task : Task UserState) → rests task ≡ true → SleepsBy pairs (used s p task) p
rests_by pairs s p task e = subst (λ pipe. SleepsBy pairs pipe p) (sym (resting s p task e)) (by_none pairs p)

-- where its descriptors are of the same pipes, a process is in a call on the same one
used_if : (fds fds' : FdTable) (p fd : ℕ) → pipe_at fds' p fd ≡ pipe_at fds p fd → (b : Bool) → cond b (pipe_at fds' p fd) None ≡ cond b (pipe_at fds p fd) None
used_if fds fds' p fd same true = same
used_if fds fds' p fd same false = refl

used_stage : (fds fds' : FdTable) (p : ℕ) → ((fd : ℕ) → pipe_at fds' p fd ≡ pipe_at fds p fd) → (stage : Stage) → used_at fds' p stage ≡ used_at fds p stage
used_stage fds fds' p same Born = refl
used_stage fds fds' p same Run = refl
used_stage fds fds' p same (Faulting signal cause) = refl
used_stage fds fds' p same (Entered joined) = refl
used_stage fds fds' p same (Doing call) = used_if fds fds' p (low_argument call 0) (same (low_argument call 0)) ((call.number == 63) || (call.number == 64))
used_stage fds fds' p same (Replaced call x) = refl
used_stage fds fds' p same (Acted call x replaced) = refl
used_stage fds fds' p same Finished = refl
used_stage fds fds' p same (Taken signal cause) = refl
used_stage fds fds' p same Dropped = refl
used_stage fds fds' p same (Stopped signal) = refl
used_stage fds fds' p same Released = refl
used_stage fds fds' p same Woken = refl

pub used_same : (s s' : Shared) (p : ℕ) → ((fd : ℕ) → pipe_at s'.fds p fd ≡ pipe_at s.fds p fd) → (task : Task UserState) → used s' p task ≡ used s p task
used_same s s' p same (Alive b stage) = used_stage s.fds s'.fds p same stage
used_same s s' p same (Dying w) = refl
used_same s s' p same Gone = refl

-- The sets after one process was put into its own

module _ (sets sets' : RunQueue) (s : Shared) (p : ℕ) (same : IsSameBut sets sets' p) where
  -- another is filed as before
  pub filed_beside : (q : ℕ) → (q ≡ p → ⊥) → (task : Task UserState) → IsFiled sets s q task → IsFiled sets' s q task
  filed_beside q ne task filed = λ unwatched n is. (same.1 q ne).2 n ∙ filed (sym (same.1 q ne).0 ∙ unwatched) n is

  -- and watched
  pub watched_beside : (q : ℕ) → (q ≡ p → ⊥) → (task : Task UserState) → IsWatched sets s q task → IsWatched sets' s q task
  watched_beside q ne task watched = λ unwatched.
      let h = watched (sym (same.1 q ne).0 ∙ unwatched) in
      (h.0, λ unslept. h.1 (sym (same.1 q ne).1 ∙ unslept))

  pub filed_but : (tasks : Tasks) → IsFiled sets' s p (at Gone tasks p) → ((q : ℕ) → 0 < q → (q ≡ p → ⊥) → IsFiled sets s q (at Gone tasks q)) → AreFiled sets' s tasks
  filed_but tasks itself others = λ q up. either q p (IsFiled sets' s q (at Gone tasks q)) (q == p) refl
      (λ e. subst (λ n. IsFiled sets' s n (at Gone tasks n)) (sym e) itself)
      (λ ne. filed_beside q ne (at Gone tasks q) (others q up ne))

  pub apart_after : (tasks : Tasks) (changed : Option ℕ) → IsWatched sets' s p (at Gone tasks p)
      → ((q : ℕ) → 0 < q → (q ≡ p → ⊥) → IsApart changed s q (at Gone tasks q) → IsWatched sets s q (at Gone tasks q)) → AreApartWatched sets' s tasks changed
  apart_after tasks changed itself others = λ q up apart. either q p (IsWatched sets' s q (at Gone tasks q)) (q == p) refl
      (λ e. subst (λ n. IsWatched sets' s n (at Gone tasks n)) (sym e) itself)
      (λ ne. watched_beside q ne (at Gone tasks q) (others q up ne apart))

-- Over those who sleep in a row

abbrev pub FiledUpTo : RunQueue → Shared → Tasks → ℕ → Type 0
FiledUpTo sets s tasks n = (q : ℕ) → 0 < q → q ≤ n → IsFiled sets s q (at Gone tasks q)

strict : (q p : ℕ) → (q ≡ p → ⊥) → q ≤ p → q < p
strict q p ne le = below p q (q < p) (nat_le p q) refl (λ ge. absurd (ne (omega (arith, le, ge)))) (λ lt. lt)

module _ (sets : RunQueue) (s : Shared) (tasks : Tasks) (passed : ℕ) (listed : AreListed sets s tasks) (seen : FiledUpTo sets s tasks passed) where
  -- who isn't asleep either rests
  unlisted_filed : (q : ℕ) → 0 < q → maps.get sets.asleep q ≡ None → IsFiled sets s q (at Gone tasks q)
  unlisted_filed q up unslept = λ unwatched. rests_by sets.by_pipe s q (at Gone tasks q) (listed q up unwatched unslept).1

  pub filed_up_to : (sets' : RunQueue) (p : ℕ) → IsNextKey sets.asleep passed (Some p) → IsSameBut sets sets' p → IsFiled sets' s p (at Gone tasks p) → FiledUpTo sets' s tasks p
  filed_up_to sets' p next same itself = λ q up le. either q p (IsFiled sets' s q (at Gone tasks q)) (q == p) refl
      (λ e. subst (λ n. IsFiled sets' s n (at Gone tasks n)) (sym e) itself)
      (λ ne. filed_beside sets sets' s p same q ne (at Gone tasks q)
      (below q passed (IsFiled sets s q (at Gone tasks q)) (nat_le q passed) refl
      (λ low. seen q up low)
      (λ high. unlisted_filed q up (next.2 q high (strict q p ne le)))))

  pub all_filed : IsNextKey sets.asleep passed None → AreFiled sets s tasks
  all_filed last = λ q up. below q passed (IsFiled sets s q (at Gone tasks q)) (nat_le q passed) refl
      (λ low. seen q up low)
      (λ high. unlisted_filed q up (last q high))

-- Over those who sleep by a pipe

abbrev pub WatchedUpTo : RunQueue → Shared → Tasks → ℕ → Type 0
WatchedUpTo sets s tasks n = (q : ℕ) → 0 < q → q ≤ n → IsWatched sets s q (at Gone tasks q)

not_both : {P : Type 0} (b : Bool) → b ≡ true → b ≡ false → P
not_both true h e = absurd (cc e)
not_both false h e = absurd (cc h)

module _ (sets : RunQueue) (s : Shared) (tasks : Tasks) (pipe passed : ℕ) (filed : AreFiled sets s tasks) (apart : AreApartWatched sets s tasks (Some pipe)) (seen : WatchedUpTo sets s tasks passed) where
  -- who doesn't sleep by the pipe is in no call on it
  unfiled_watched : (q : ℕ) → 0 < q → has sets.by_pipe pipe q ≡ false → IsWatched sets s q (at Gone tasks q)
  unfiled_watched q up none = λ unwatched.
      apart q up (λ n is uses. not_both (has sets.by_pipe n q) (filed q up unwatched n uses) (subst (λ m. has sets.by_pipe m q ≡ false) (ap (λ o. unwrap_or o pipe) is) none)) unwatched

  pub watched_up_to : (sets' : RunQueue) (p : ℕ) → IsNextThat (has sets.by_pipe pipe) passed (Some p) → IsSameBut sets sets' p → IsWatched sets' s p (at Gone tasks p) → WatchedUpTo sets' s tasks p
  watched_up_to sets' p next same itself = λ q up le. either q p (IsWatched sets' s q (at Gone tasks q)) (q == p) refl
      (λ e. subst (λ n. IsWatched sets' s n (at Gone tasks n)) (sym e) itself)
      (λ ne. watched_beside sets sets' s p same q ne (at Gone tasks q)
      (below q passed (IsWatched sets s q (at Gone tasks q)) (nat_le q passed) refl
      (λ low. seen q up low)
      (λ high. unfiled_watched q up (next.2 q high (strict q p ne le)))))

  -- those apart are watched still
  pub apart_but : (sets' : RunQueue) (p : ℕ) → IsSameBut sets sets' p → IsWatched sets' s p (at Gone tasks p) → AreApartWatched sets' s tasks (Some pipe)
  apart_but sets' p same itself = λ q up far. either q p (IsWatched sets' s q (at Gone tasks q)) (q == p) refl
      (λ e. subst (λ n. IsWatched sets' s n (at Gone tasks n)) (sym e) itself)
      (λ ne. watched_beside sets sets' s p same q ne (at Gone tasks q) (apart q up far))

  pub all_by_watched : IsNextThat (has sets.by_pipe pipe) passed None → AreWatched sets s tasks
  all_by_watched last = λ q up. below q passed (IsWatched sets s q (at Gone tasks q)) (nat_le q passed) refl
      (λ low. seen q up low)
      (λ high. unfiled_watched q up (last q high))

-- where no pipe was changed, nobody is in a call on it
pub none_apart : (sets : RunQueue) (s : Shared) (tasks : Tasks) → AreApartWatched sets s tasks None → AreWatched sets s tasks
none_apart sets s tasks apart = λ q up. apart q up (λ n is uses. let no : ◌≡◌ {A = Option ℕ} None (Some n) = is in cc no)

-- where nobody sleeps, all who aren't awake rest
pub all_rest : (sets : RunQueue) (s : Shared) (tasks : Tasks) → ((q : ℕ) → maps.get sets.asleep q ≡ None) → AreListed sets s tasks → AreFiled sets s tasks
all_rest sets s tasks none listed = λ q up unwatched. rests_by sets.by_pipe s q (at Gone tasks q) (listed q up unwatched (none q)).1

-- A turn

welcomed_pairs : (sets : RunQueue) (child : ℕ) (event : PtraceEvent UserState) → (welcomed sets child event).by_pipe ≡ sets.by_pipe
welcomed_pairs sets child Plain = refl
welcomed_pairs sets child Execed = refl
welcomed_pairs sets child (Forked newborn) = refl

-- a process that is in a call on the same pipe is filed still
pub filed_on : (sets : RunQueue) (child : ℕ) (event : PtraceEvent UserState) (s s' : Shared) (q : ℕ) (task task' : Task UserState)
    → (maps.get (welcomed sets child event).awake q ≡ None → SleepsBy sets.by_pipe (used s q task) q) → task' ≡ task → used s' q task ≡ used s q task → IsFiled (welcomed sets child event) s' q task'
filed_on sets child event s s' q task task' filed same uses = λ unwatched n is.
    ap (λ (pairs : PairSet). has pairs n q) (welcomed_pairs sets child event) ∙ filed unwatched n (sym uses ∙ ap (used s' q) (sym same) ∙ is)

-- parts that keep are filed still
pub filing_kept : (sets : RunQueue) (s : Shared) (tasks tasks' : Tasks) → AreWatched sets s tasks → ((q : ℕ) → IsKept s q (at Gone tasks q) (at Gone tasks' q)) → AreFiled sets s tasks → AreFiled sets s tasks'
filing_kept sets s tasks tasks' watched kept filed = λ q up unwatched n is. filed q up unwatched n (sym ((kept q).2 (watched q up unwatched).0) ∙ is)
