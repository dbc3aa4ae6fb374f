-- What keeps the sets of processes right.
use Rattle.std.proofs.Common.{◌≡◌, ◌<◌, ℕ, Bool, true, List, Option, Some, None, inl, inr, refl, ap, sym, subst, ◌∙◌}
use Rattle.std.specs.Prelude.{◌==◌}
use Rattle.std.specs.Option.{unwrap_or}
use Rattle.std.specs.Ordering.{nat_cmp}
use Rattle.std.specs.FinMap as maps
use Rattle.lx_abi.specs.declared.log.Item.{Item}
use Rattle.lx_abi.specs.declared.script.Rule.{Rule}
use Rattle.lx_abi.specs.Scripts.{choice_of}
use Rattle.lx_model.specs.Machine.{Regs}
use Rattle.lx_model.specs.Kernel.{traces, choice_at}
use Rattle.lx_model.specs.declared.event.PtraceEvent.{PtraceEvent}
use Rattle.lx_model.specs.declared.event.PtraceEvent.TheVariants.{Plain, Execed, Forked}
use Rattle.lx_model.specs.Turn.{Out, turn}
use Rattle.lx_model.specs.Finite.{at, placed, Running}
use Rattle.lx_model.specs.declared.stage.Stage.{Stage}
use Rattle.lx_model.specs.declared.stage.Stage.TheVariants as stage
use Rattle.lx_model.specs.declared.stage.Task.{Task}
use Rattle.lx_model.specs.declared.stage.Task.TheVariants.{Alive, Dying, Gone}
use Rattle.lx_proc.specs.declared.state.Shared.{Shared}
use Rattle.lx_proc.specs.declared.state.UserState.{UserState}
use Rattle.lx_fcalls.specs.Blocking.{would_block, read_would_block, write_would_block}
use Rattle.lx_turn.specs.Linux.{linux}
use Rattle.lx_kernel.specs.Scheduling.{Tasks}
use Rattle.lx_kernel.specs.Blocking.{can_turn, IsBlocked, rests, would_block as blocks}
use Rattle.lx_kernel.specs.Pipes.{used, IsApart}
use Rattle.lx_kernel.specs.Waking.{WakesFew, LeavesStopped}
use Rattle.lx_kernel.specs.Sleeping.{IsKept, IsSameBut, IsWatched, AreWatched, AreOthersListed, Watch, IsFiled, AreFiled, Filing, welcomed}
use Rattle.lx_kernel.specs.Tracing.{with_regs, with_part_at}
use Rattle.lx_turn.specs.Turned.{turned, Turned, unboxed, IsBirth}
use Rattle.lx_kernel.specs.Turns.{tasks_with}
use Rattle.lx_kernel.specs.Turns.{Turns}
use Rattle.std.specs.Global.{Box}
use Rattle.lx_kernel.specs.declared.run_queue.RunQueue.{RunQueue}
use Rattle.lx_kernel.proofs.Placed.{get_put}
use Rattle.lx_kernel.proofs.Placing.{at_placed}
use Rattle.lx_kernel.proofs.Placed.{either, other_put, other_left}
use Rattle.lx_kernel.proofs.Sleeping.{put_there, gone_blocked, watched_but}
use Rattle.lx_kernel.proofs.Filing.{rests_by, filed_beside, watched_beside, filed_but, filed_on}
use Rattle.lx_kernel.proofs.Stopping.{still_turn}

kept_same : (s : Shared) (q : ℕ) (task : Task UserState) → IsKept s q task task
kept_same s q task = (λ e. e, λ e. e, λ e. refl)

-- a table whose parts keep
pub watch_kept : (sets : RunQueue) (s : Shared) (tasks tasks' : Tasks) → ((q : ℕ) → IsKept s q (at Gone tasks q) (at Gone tasks' q)) → Watch sets s tasks → Watch sets s tasks'
watch_kept sets s tasks tasks' kept watch = λ known q up unwatched.
    let h = watch known q up unwatched in
    ((kept q).0 h.0, λ unslept. (kept q).1 (h.1 unslept))

-- a table with one part changed, at another pid
placed_other : (tasks : Tasks) (p q : ℕ) (task : Task UserState) → (q ≡ p → ⊥) → at Gone (placed tasks p task) q ≡ at Gone tasks q
placed_other tasks p q (Alive b stage) ne = ap (λ o. unwrap_or o Gone) (other_put tasks p q ne (Alive b stage))
placed_other tasks p q (Dying w) ne = ap (λ o. unwrap_or o Gone) (other_put tasks p q ne (Dying w))
placed_other tasks p q Gone ne = ap (λ o. unwrap_or o Gone) (other_left tasks p q ne)

-- A part that is changed, or isn't

abbrev PartKept : Shared → ℕ → Task UserState → Option (Task UserState) → Type 0
PartKept s p task None = Unit {0}
PartKept s p task (Some other) = IsKept s p task other

pub part_kept : (s : Shared) (tasks : Tasks) (p : ℕ) (x : Option (Task UserState)) → PartKept s p (at Gone tasks p) x → (q : ℕ) → IsKept s q (at Gone tasks q) (at Gone (with_part_at tasks p x) q)
part_kept s tasks p None h = λ q. kept_same s q (at Gone tasks q)
part_kept s tasks p (Some task) h = λ q. either q p (IsKept s q (at Gone tasks q) (at Gone (placed tasks p task) q)) (q == p) refl
    (λ e. subst (λ n. IsKept s n (at Gone tasks n) (at Gone (placed tasks p task) n)) (sym e) (subst (IsKept s p (at Gone tasks p)) (sym (at_placed tasks p task)) h))
    (λ ne. subst (IsKept s q (at Gone tasks q)) (sym (placed_other tasks p q task ne)) (kept_same s q (at Gone tasks q)))

regs_blocked : (s : Shared) (p : ℕ) (b : UserState) (r : Regs) (at : Stage) → IsBlocked s p (Alive b at) → IsBlocked s p (Alive (linux.with_regs b r) at)
unfolding can_turn blocks would_block read_would_block write_would_block
regs_blocked s p b r stage.Born e = e
regs_blocked s p b r stage.Run e = e
regs_blocked s p b r (stage.Faulting signal cause) e = e
regs_blocked s p b r (stage.Entered joined) e = e
regs_blocked s p b r (stage.Doing call) e = e
regs_blocked s p b r (stage.Replaced call x) e = e
regs_blocked s p b r (stage.Acted call x replaced) e = e
regs_blocked s p b r stage.Finished e = e
regs_blocked s p b r (stage.Taken signal cause) e = e
regs_blocked s p b r stage.Dropped e = e
regs_blocked s p b r (stage.Stopped signal) e = e
regs_blocked s p b r stage.Released e = e
regs_blocked s p b r stage.Woken e = e

pub regs_kept : (s : Shared) (p : ℕ) (r : Regs) (task : Task UserState) → PartKept s p task (with_regs r task)
regs_kept s p r (Alive b at) = (regs_blocked s p b r at, λ e. e, λ e. refl)
regs_kept s p r (Dying w) = tt
regs_kept s p r Gone = tt

-- Wherever a process that is awake goes on from, its part may be any.

module _ (sets sets' : RunQueue) (s : Shared) (tasks : Tasks) (p : ℕ) (same : sets'.known ≡ true → IsSameBut sets sets' p) (awake : sets'.known ≡ true → maps.get sets'.awake p ≡ None → ⊥) where
  -- a process that was woken
  pub wake_watch : Watch sets s tasks → Watch sets' s tasks
  wake_watch watch = λ known. watched_but sets sets' s tasks p (same known) (λ unwatched. absurd (awake known unwatched)) (λ q up ne. watch (same known).0 q up)

  -- and is filed
  pub wake_filing : Filing sets s tasks → Filing sets' s tasks
  wake_filing filing = λ known. filed_but sets sets' s p (same known) tasks (λ unwatched. absurd (awake known unwatched)) (λ q up ne. filing (same known).0 q up)

awake_placed : (sets : RunQueue) (s : Shared) (tasks : Tasks) (p : ℕ) (task : Task UserState) → (maps.get sets.awake p ≡ None → ⊥) → AreWatched sets s tasks → AreWatched sets s (placed tasks p task)
awake_placed sets s tasks p task awake watched = λ q up. either q p (IsWatched sets s q (at Gone (placed tasks p task) q)) (q == p) refl
    (λ e unwatched. absurd (awake (subst (λ n. maps.get sets.awake n ≡ None) e unwatched)))
    (λ ne. subst (IsWatched sets s q) (sym (placed_other tasks p q task ne)) (watched q up))

pub awake_kept : (sets : RunQueue) (s : Shared) (tasks : Tasks) (p : ℕ) (x : Option (Task UserState)) → (maps.get sets.awake p ≡ None → ⊥) → AreWatched sets s tasks → AreWatched sets s (with_part_at tasks p x)
awake_kept sets s tasks p None awake watched = watched
awake_kept sets s tasks p (Some task) awake watched = awake_placed sets s tasks p task awake watched

filed_placed : (sets : RunQueue) (s : Shared) (tasks : Tasks) (p : ℕ) (task : Task UserState) → (maps.get sets.awake p ≡ None → ⊥) → AreFiled sets s tasks → AreFiled sets s (placed tasks p task)
filed_placed sets s tasks p task awake filed = λ q up. either q p (IsFiled sets s q (at Gone (placed tasks p task) q)) (q == p) refl
    (λ e unwatched. absurd (awake (subst (λ n. maps.get sets.awake n ≡ None) e unwatched)))
    (λ ne. subst (IsFiled sets s q) (sym (placed_other tasks p q task ne)) (filed q up))

pub awake_filed : (sets : RunQueue) (s : Shared) (tasks : Tasks) (p : ℕ) (x : Option (Task UserState)) → (maps.get sets.awake p ≡ None → ⊥) → AreFiled sets s tasks → AreFiled sets s (with_part_at tasks p x)
awake_filed sets s tasks p None awake filed = filed
awake_filed sets s tasks p (Some task) awake filed = filed_placed sets s tasks p task awake filed

-- Turns in a row

pub put_kept : (s : Shared) (tasks : Tasks) (p : ℕ) (task task' : Task UserState) → Some task ≡ maps.get tasks p → IsKept s p task task' → (q : ℕ) → IsKept s q (at Gone tasks q) (at Gone (maps.insert tasks p task') q)
put_kept s tasks p task task' there kept q = either q p (IsKept s q (at Gone tasks q) (at Gone (maps.insert tasks p task') q)) (q == p) refl
    (λ e. subst (λ n. IsKept s n (at Gone tasks n) (at Gone (maps.insert tasks p task') n)) (sym e)
    (subst (λ o. IsKept s p (unwrap_or o Gone) (at Gone (maps.insert tasks p task') p)) there
    (subst (λ o. IsKept s p task (unwrap_or o Gone)) (sym (get_put tasks p task')) kept)))
    (λ ne. subst (λ o. IsKept s q (at Gone tasks q) (unwrap_or o Gone)) (sym (other_put tasks p q ne task')) (kept_same s q (at Gone tasks q)))

-- At first

pub first_watch : (sets : RunQueue) (s : Shared) (tasks : Tasks) → (sets.known ≡ true → sets.awake ≡ maps.insert maps.empty 1 tt) → ((q : ℕ) → (q ≡ 1 → ⊥) → at Gone tasks q ≡ Gone) → Watch sets s tasks
first_watch sets s tasks awake alone = λ known q up unwatched.
    either q 1 (IsBlocked s q (at Gone tasks q) × (maps.get sets.asleep q ≡ None → rests (at Gone tasks q) ≡ true)) (q == 1) refl
    (λ e. put_there maps.empty sets.awake 1 tt (awake known) (subst (λ n. maps.get sets.awake n ≡ None) e unwatched))
    (λ ne. (gone_blocked s q (at Gone tasks q) (alone q ne), λ unslept. ap rests (alone q ne)))

pub first_filing : (sets : RunQueue) (s : Shared) (tasks : Tasks) → (sets.known ≡ true → sets.awake ≡ maps.insert maps.empty 1 tt) → ((q : ℕ) → (q ≡ 1 → ⊥) → at Gone tasks q ≡ Gone) → Filing sets s tasks
first_filing sets s tasks awake alone = λ known q up. either q 1 (IsFiled sets s q (at Gone tasks q)) (q == 1) refl
    (λ e unwatched. put_there maps.empty sets.awake 1 tt (awake known) (subst (λ n. maps.get sets.awake n ≡ None) e unwatched))
    (λ ne unwatched. rests_by sets.by_pipe s q (at Gone tasks q) (ap rests (alone q ne)))

-- a table of process 1 alone
pub alone : (task : Task UserState) (q : ℕ) → (q ≡ 1 → ⊥) → at Gone (maps.insert maps.empty 1 task) q ≡ Gone
alone task q ne = ap (λ o. unwrap_or o Gone) (other_put maps.empty 1 q ne task ∙ maps.get-empty nat_cmp q)

-- A turn

-- the table with a child, at another pid
with_child : (tasks : Tasks) (child q : ℕ) (event : PtraceEvent UserState) → (IsBirth event → q ≡ child → ⊥) → at Gone (tasks_with tasks child event) q ≡ at Gone tasks q
with_child tasks child q Plain other = refl
with_child tasks child q Execed other = refl
with_child tasks child q (Forked newborn) other = ap (λ o. unwrap_or o Gone) (other_put tasks child q (other tt) (Alive newborn stage.Born))

-- who isn't awake after a birth isn't the child, and wasn't before
unwelcomed : (sets : RunQueue) (child q : ℕ) (event : PtraceEvent UserState) → maps.get (welcomed sets child event).awake q ≡ None → (IsBirth event → q ≡ child → ⊥)
unwelcomed sets child q Plain none = λ birth. absurd birth
unwelcomed sets child q Execed none = λ birth. absurd birth
unwelcomed sets child q (Forked newborn) none = λ birth e. put_there sets.awake (maps.insert sets.awake child tt) child tt refl (subst (λ n. maps.get (maps.insert sets.awake child tt) n ≡ None) e none)

unwatched_before : (sets : RunQueue) (child q : ℕ) (event : PtraceEvent UserState) → (IsBirth event → q ≡ child → ⊥) → maps.get (welcomed sets child event).awake q ≡ None → maps.get sets.awake q ≡ None
unwatched_before sets child q Plain other none = none
unwatched_before sets child q Execed other none = none
unwatched_before sets child q (Forked newborn) other none = sym (other_put sets.awake child q (other tt) tt) ∙ none

unslept_before : (sets : RunQueue) (child q : ℕ) (event : PtraceEvent UserState) → (IsBirth event → q ≡ child → ⊥) → maps.get (welcomed sets child event).asleep q ≡ None → maps.get sets.asleep q ≡ None
unslept_before sets child q Plain other none = none
unslept_before sets child q Execed other none = none
unslept_before sets child q (Forked newborn) other none = sym (other_left sets.asleep child q (other tt)) ∙ none

module _ (v : Running Shared UserState) (rules : List Rule) (follow : Bool) (p : ℕ) (count : ℕ → ℕ) (item : Option Item) (done : PtraceEvent (Box UserState)) (s : Shared) (tasks : Tasks)
    (turns : Turns (turned (turn linux (choice_at linux (choice_of rules) (traces follow p) count (at Gone v.tasks p)) v.shared v.child p (at Gone v.tasks p))) v.tasks p item done s tasks)
    (sets : RunQueue) (watched : AreWatched sets v.shared v.tasks) where
  abbrev task : Task UserState
  task = at Gone v.tasks p

  abbrev out : Task UserState → Out Shared UserState
  out o = turn linux (choice_at linux (choice_of rules) (traces follow p) count o) v.shared v.child p o

  abbrev event : PtraceEvent UserState
  event = unboxed done

  task_is : at Gone tasks p ≡ (out task).task
  task_is = ap (λ (m : Tasks). at Gone m p) (sym turns.tasks_is) ∙ at_placed v.tasks p (out task).task

  other_is : (q : ℕ) → (q ≡ p → ⊥) → at Gone tasks q ≡ at Gone v.tasks q
  other_is q ne = ap (λ (m : Tasks). at Gone m q) (sym turns.tasks_is) ∙ placed_other v.tasks p q (out task).task ne

  -- who was stopped, or gone, and blocked
  abbrev Still : Shared → ℕ → Task UserState → Type 0
  Still s q o = IsBlocked s q o × (rests o ≡ true)

  itself_still : Still v.shared p task → Still s p (at Gone tasks p)
  itself_still h =
      let same = still_turn (choice_at linux (choice_of rules) (traces follow p) count task) v.shared v.child p task h.1 h.0 in
      subst (Still s p) (sym (task_is ∙ ap (λ (t : Turned). t.task) same)) (subst (λ (t : Shared). Still t p task) (sym (ap (λ (t : Turned). t.shared) same) ∙ turns.shared_is) h)

  module _ (told : ℕ) (leaves : LeavesStopped v.shared s v.child p told event) where
    stays_still : (q : ℕ) → 0 < q → (q ≡ told → q ≡ p) → (IsBirth event → q ≡ v.child → ⊥) → Still v.shared q (at Gone v.tasks q) → Still s q (at Gone tasks q)
    stays_still q up untold other h = either q p (Still s q (at Gone tasks q)) (q == p) refl
        (λ e. subst (λ n. Still s n (at Gone tasks n)) (sym e) (itself_still (subst (λ n. Still v.shared n (at Gone v.tasks n)) e h)))
        (λ ne. subst (Still s q) (sym (other_is q ne)) (leaves q up ne (λ is. ne (untold is)) other (at Gone v.tasks q) h.1 h.0, h.1))

    -- those in neither set are stopped or gone, but for one that is told
    pub turn_listed : AreOthersListed (welcomed sets v.child event) s (tasks_with tasks v.child event) p told
    turn_listed = λ q up untold unwatched unslept.
        let other = unwelcomed sets v.child q event unwatched in
        let h = watched q up (unwatched_before sets v.child q event other unwatched) in
        subst (Still s q) (sym (with_child tasks v.child q event other))
        (stays_still q up untold other (h.0, h.1 (unslept_before sets v.child q event other unslept)))

  -- the others are in calls on the same pipes
  module _ (told : ℕ) (changed : Option ℕ) (few : WakesFew v.shared s v.child p told changed event) where
    task_same : (q : ℕ) → (q ≡ p → ⊥) → (IsBirth event → q ≡ v.child → ⊥) → at Gone (tasks_with tasks v.child event) q ≡ at Gone v.tasks q
    task_same q ne other = with_child tasks v.child q event other ∙ other_is q ne

    uses_same : (q : ℕ) → (q ≡ p → ⊥) → (IsBirth event → q ≡ v.child → ⊥) → IsBlocked v.shared q (at Gone v.tasks q)
        → used s q (at Gone (tasks_with tasks v.child event) q) ≡ used v.shared q (at Gone v.tasks q)
    uses_same q ne other blocked = ap (used s q) (task_same q ne other) ∙ few.uses q ne other (at Gone v.tasks q) blocked

    -- after a turn that wakes few, all but those on the pipe that was changed are watched
    pub turn_watched : (q : ℕ) → 0 < q → (q ≡ p → ⊥) → (q ≡ told → ⊥) → IsApart changed s q (at Gone (tasks_with tasks v.child event) q)
        → IsWatched (welcomed sets v.child event) s q (at Gone (tasks_with tasks v.child event) q)
    turn_watched q up ne still apart unwatched =
        let other = unwelcomed sets v.child q event unwatched in
        let h = watched q up (unwatched_before sets v.child q event other unwatched) in (
          ap (can_turn s q) (task_same q ne other) ∙ few.blocked q up ne still other (at Gone v.tasks q) (λ n c u. apart n c (uses_same q ne other h.0 ∙ u)) h.0,
          λ unslept. ap rests (task_same q ne other) ∙ h.1 (unslept_before sets v.child q event other unslept),
        )

    -- and filed
    pub turn_filed : AreFiled sets v.shared v.tasks → (q : ℕ) → 0 < q → (q ≡ p → ⊥) → IsFiled (welcomed sets v.child event) s q (at Gone (tasks_with tasks v.child event) q)
    turn_filed filed q up ne unwatched =
        let other = unwelcomed sets v.child q event unwatched in
        filed_on sets v.child event v.shared s q (at Gone v.tasks q) (at Gone (tasks_with tasks v.child event) q)
        (λ unwatched. filed q up (unwatched_before sets v.child q event other unwatched)) (task_same q ne other)
        (few.uses q ne other (at Gone v.tasks q) (watched q up (unwatched_before sets v.child q event other unwatched)).0) unwatched

module _ (sets sets' : RunQueue) (s : Shared) (tasks : Tasks) (p told : ℕ) (same : IsSameBut sets sets' told) where
  -- after one that was told is looked at, beside the others
  pub told_watched : (changed : Option ℕ) → ((told ≡ p → ⊥) → IsWatched sets' s told (at Gone tasks told))
      → ((q : ℕ) → 0 < q → (q ≡ p → ⊥) → (q ≡ told → ⊥) → IsApart changed s q (at Gone tasks q) → IsWatched sets s q (at Gone tasks q))
      → (q : ℕ) → 0 < q → (q ≡ p → ⊥) → IsApart changed s q (at Gone tasks q) → IsWatched sets' s q (at Gone tasks q)
  told_watched changed itself others q up ne apart = either q told (IsWatched sets' s q (at Gone tasks q)) (q == told) refl
      (λ e. subst (λ n. IsWatched sets' s n (at Gone tasks n)) (sym e) (itself (λ is. ne (e ∙ is))))
      (λ still. watched_beside sets sets' s told same q still (at Gone tasks q) (others q up ne still apart))

  pub told_filed : ((told ≡ p → ⊥) → IsFiled sets' s told (at Gone tasks told))
      → ((q : ℕ) → 0 < q → (q ≡ p → ⊥) → IsFiled sets s q (at Gone tasks q)) → (q : ℕ) → 0 < q → (q ≡ p → ⊥) → IsFiled sets' s q (at Gone tasks q)
  told_filed itself others q up ne = either q told (IsFiled sets' s q (at Gone tasks q)) (q == told) refl
      (λ e. subst (λ n. IsFiled sets' s n (at Gone tasks n)) (sym e) (itself (λ is. ne (e ∙ is))))
      (λ still. filed_beside sets sets' s told same q still (at Gone tasks q) (others q up ne))
