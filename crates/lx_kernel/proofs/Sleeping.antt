-- The sets of processes that are awake and asleep.
use Rattle.std.proofs.Common.{◌≡◌, ◌<◌, ℕ, Bool, true, false, List, [], ◌∷◌, length, Option, Some, None, refl, ap, sym, subst, ◌∙◌, arith}
use Rattle.std.specs.Prelude.{◌==◌, ◌≤◌, nat_le}
use Rattle.containers.specs.Keys.{IsNextKey}
use Rattle.std.specs.Ordering.{nat_cmp}
use Rattle.std.specs.FinMap as maps
use Rattle.std.specs.FinMap.{FinMap}
use Rattle.std.specs.FinMap.Entries as entry
use Rattle.std.proofs.lemmas.Bool.Decides.{nat_tests}
use Rattle.lx_model.specs.Finite.{at}
use Rattle.lx_model.specs.declared.stage.Task.{Task}
use Rattle.lx_model.specs.declared.stage.Task.TheVariants.{Alive, Dying, Gone}
use Rattle.lx_proc.specs.declared.state.Shared.{Shared}
use Rattle.lx_proc.specs.declared.state.UserState.{UserState}
use Rattle.lx_kernel.specs.Scheduling.{Tasks}
use Rattle.lx_kernel.specs.Blocking.{can_turn, IsBlocked, rests}
use Rattle.lx_kernel.specs.Sleeping.{IsWatched, AreWatched, IsListed, AreListed, IsSameBut}
use Rattle.lx_kernel.specs.declared.run_queue.RunQueue.{RunQueue}
use Rattle.lx_kernel.proofs.Placed.{either, get_put}

none_in : {X : Type 0} (q : ℕ) (es : List (ℕ × X)) → length es ≡ 0 → entry.find nat_cmp q es ≡ None
none_in q [] e = refl
none_in q (x ∷ es) e = absurd (omega (arith, e))

-- nothing is in an empty map
pub none_in_empty : {X : Type 0} (m : FinMap nat_cmp X) → maps.len m ≡ 0 → (q : ℕ) → maps.get m q ≡ None
none_in_empty m e q = maps.get-entries m q ∙ none_in q (maps.entries m) (sym (maps.len-entries m) ∙ e)

-- who is gone has no turn
pub gone_blocked : (s : Shared) (p : ℕ) (task : Task UserState) → task ≡ Gone → IsBlocked s p task
unfolding can_turn
gone_blocked s p (Alive b stage) e = absurd (cc e)
gone_blocked s p (Dying w) e = absurd (cc e)
gone_blocked s p Gone e = refl

-- where nobody sleeps, all who aren't awake are stopped or gone
pub all_awake : (sets : RunQueue) (s : Shared) (tasks : Tasks) → maps.len sets.asleep ≡ 0 → AreListed sets s tasks → AreWatched sets s tasks
all_awake sets s tasks none listed = λ q up unwatched.
    let h = listed q up unwatched (none_in_empty sets.asleep none q) in
    (h.0, λ e. h.1)

module _ (sets sets' : RunQueue) (s : Shared) (tasks : Tasks) (p : ℕ) (same : IsSameBut sets sets' p) (itself : IsWatched sets' s p (at Gone tasks p)) where
  -- all are watched, where the others were
  pub watched_but : ((q : ℕ) → 0 < q → (q ≡ p → ⊥) → IsWatched sets s q (at Gone tasks q)) → AreWatched sets' s tasks
  watched_but others = λ q up. either q p (IsWatched sets' s q (at Gone tasks q)) (q == p) refl
      (λ e. subst (λ n. IsWatched sets' s n (at Gone tasks n)) (sym e) itself)
      (λ ne unwatched.
      let h = others q up ne (sym (same.1 q ne).0 ∙ unwatched) in
      (h.0, λ unslept. h.1 (sym (same.1 q ne).1 ∙ unslept)))

  -- and listed
  pub listed_but : ((q : ℕ) → 0 < q → (q ≡ p → ⊥) → IsListed sets s q (at Gone tasks q)) → AreListed sets' s tasks
  listed_but others = λ q up. either q p (IsListed sets' s q (at Gone tasks q)) (q == p) refl
      (λ e. subst (λ n. IsListed sets' s n (at Gone tasks n)) (sym e) (λ unwatched unslept. ((itself unwatched).0, (itself unwatched).1 unslept)))
      (λ ne unwatched unslept. others q up ne (sym (same.1 q ne).0 ∙ unwatched) (sym (same.1 q ne).1 ∙ unslept))

-- what was put in is there
pub put_there : {X P : Type 0} (m m' : FinMap nat_cmp X) (p : ℕ) (x : X) → m' ≡ maps.insert m p x → maps.get m' p ≡ None → P
put_there {X = X} m m' p x is none =
    let e : ◌≡◌ {A = Option X} (Some x) None = sym (ap (λ m. maps.get m p) is ∙ get_put m p x) ∙ none in
    absurd (cc e)

-- Over the run queue in a row.

-- those up to a number are blocked, unless they are awake
abbrev pub BlockedUpTo : RunQueue → Shared → Tasks → ℕ → Type 0
BlockedUpTo sets s tasks n = (q : ℕ) → 0 < q → q ≤ n → maps.get sets.awake q ≡ None → IsBlocked s q (at Gone tasks q)

-- one number is at most another, or above it
pub below : (q n : ℕ) (P : Type 0) (b : Bool) → nat_le q n ≡ b → (q ≤ n → P) → (n < q → P) → P
below q n P true e low high = low (grind (arith, nat_tests))
below q n P false e low high = high (grind (arith, nat_tests))

module _ (sets : RunQueue) (s : Shared) (tasks : Tasks) (passed : ℕ) (listed : AreListed sets s tasks) (seen : BlockedUpTo sets s tasks passed) where
  -- who isn't asleep either is blocked as well
  unlisted : (q : ℕ) → 0 < q → maps.get sets.awake q ≡ None → maps.get sets.asleep q ≡ None → IsBlocked s q (at Gone tasks q)
  unlisted q up unwatched unslept = (listed q up unwatched unslept).0

  pub blocked_up_to : (sets' : RunQueue) (p : ℕ) → IsNextKey sets.asleep passed (Some p) → IsSameBut sets sets' p → IsWatched sets' s p (at Gone tasks p) → BlockedUpTo sets' s tasks p
  blocked_up_to sets' p next same itself = λ q up le. either q p (maps.get sets'.awake q ≡ None → IsBlocked s q (at Gone tasks q)) (q == p) refl
      (λ e. subst (λ n. maps.get sets'.awake n ≡ None → IsBlocked s n (at Gone tasks n)) (sym e) (λ unwatched. (itself unwatched).0))
      (λ ne unwatched.
      let before = sym (same.1 q ne).0 ∙ unwatched in
      below q passed (IsBlocked s q (at Gone tasks q)) (nat_le q passed) refl
      (λ low. seen q up low before)
      (λ high. unlisted q up before (next.2 q high (strict q p ne le))))
    where
      strict : (q p : ℕ) → (q ≡ p → ⊥) → q ≤ p → q < p
      strict q p ne le = below p q (q < p) (nat_le p q) refl (λ ge. absurd (ne (omega (arith, le, ge)))) (λ lt. lt)

  pub all_watched : IsNextKey sets.asleep passed None → AreWatched sets s tasks
  all_watched last = λ q up unwatched. below q passed (IsBlocked s q (at Gone tasks q) × (maps.get sets.asleep q ≡ None → rests (at Gone tasks q) ≡ true)) (nat_le q passed) refl
      (λ low. (seen q up low unwatched, λ unslept. (listed q up unwatched unslept).1))
      (λ high. (unlisted q up unwatched (last q high), λ unslept. (listed q up unwatched unslept).1))
