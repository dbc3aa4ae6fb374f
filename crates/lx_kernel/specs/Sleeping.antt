-- Which processes a search for the next turn looks at: it needs no look at those that are blocked.
use Rattle.std.specs.Prelude.{◌≡◌, ◌<◌, ℕ, true, Option, Some, None}
use Rattle.std.specs.Ordering.{nat_cmp}
use Rattle.std.specs.FinMap as maps
use Rattle.std.specs.FinMap.{FinMap}
use Rattle.lx_model.specs.declared.event.PtraceEvent.{PtraceEvent}
use Rattle.lx_model.specs.declared.event.PtraceEvent.TheVariants.{Plain, Execed, Forked}
use Rattle.lx_model.specs.Finite.{at}
use Rattle.lx_model.specs.declared.stage.Task.{Task}
use Rattle.lx_model.specs.declared.stage.Task.TheVariants.{Gone}
use Rattle.lx_proc.specs.Pairs.{PairSet, has}
use Rattle.lx_proc.specs.declared.state.Shared.{Shared}
use Rattle.lx_proc.specs.declared.state.UserState.{UserState}
use Rattle.lx_kernel.specs.Blocking.{IsBlocked, rests}
use Rattle.lx_kernel.specs.Pipes.{used, IsApart}
use Rattle.lx_kernel.specs.Scheduling.{Tasks}
use Rattle.lx_kernel.specs.declared.run_queue.RunQueue.{RunQueue}

-- a part that is blocked, stopped or gone is so with another in its place, and on the same pipe
abbrev pub IsKept : Shared → ℕ → Task UserState → Task UserState → Type 0
IsKept s p task task' =
    (IsBlocked s p task → IsBlocked s p task')
    × (rests task ≡ true → rests task' ≡ true)
    × (IsBlocked s p task → used s p task' ≡ used s p task)

-- all but the keys are blocked
abbrev pub AreOthersBlocked : {X : Type 0} → FinMap nat_cmp X → Shared → Tasks → Type 0
AreOthersBlocked keys s tasks = (q : ℕ) → 0 < q → maps.get keys q ≡ None → IsBlocked s q (at Gone tasks q)

-- The sets.

-- a process that isn't awake is blocked, and where it isn't asleep either it is stopped or gone
abbrev pub IsWatched : RunQueue → Shared → ℕ → Task UserState → Type 0
IsWatched sets s p task =
    maps.get sets.awake p ≡ None → IsBlocked s p task × (maps.get sets.asleep p ≡ None → rests task ≡ true)

abbrev pub AreWatched : RunQueue → Shared → Tasks → Type 0
AreWatched sets s tasks = (q : ℕ) → 0 < q → IsWatched sets s q (at Gone tasks q)

-- who is in neither set is blocked, stopped or gone
abbrev pub IsListed : RunQueue → Shared → ℕ → Task UserState → Type 0
IsListed sets s p task =
    maps.get sets.awake p ≡ None → maps.get sets.asleep p ≡ None → IsBlocked s p task × (rests task ≡ true)

abbrev pub AreListed : RunQueue → Shared → Tasks → Type 0
AreListed sets s tasks = (q : ℕ) → 0 < q → IsListed sets s q (at Gone tasks q)

-- each but one that another's turn has told
abbrev pub AreOthersListed : RunQueue → Shared → Tasks → ℕ → ℕ → Type 0
AreOthersListed sets s tasks p told =
    (q : ℕ) → 0 < q → (q ≡ told → q ≡ p) → IsListed sets s q (at Gone tasks q)

-- as long as memory for them was never refused
abbrev pub Watch : RunQueue → Shared → Tasks → Type 0
Watch sets s tasks = sets.known ≡ true → AreWatched sets s tasks

-- The sleepers by their pipes.

-- the process sleeps by the pipe, if there is one
abbrev pub SleepsBy : PairSet → Option ℕ → ℕ → Type 0
SleepsBy pairs pipe p = (n : ℕ) → pipe ≡ Some n → has pairs n p ≡ true

-- a process that isn't awake sleeps by the pipe that it reads or writes
abbrev pub IsFiled : RunQueue → Shared → ℕ → Task UserState → Type 0
IsFiled sets s p task = maps.get sets.awake p ≡ None → SleepsBy sets.by_pipe (used s p task) p

abbrev pub AreFiled : RunQueue → Shared → Tasks → Type 0
AreFiled sets s tasks = (q : ℕ) → 0 < q → IsFiled sets s q (at Gone tasks q)

abbrev pub Filing : RunQueue → Shared → Tasks → Type 0
Filing sets s tasks = sets.known ≡ true → AreFiled sets s tasks

-- all but those who are in a call on a pipe that was changed are watched
abbrev pub AreApartWatched : RunQueue → Shared → Tasks → Option ℕ → Type 0
AreApartWatched sets s tasks changed =
    (q : ℕ) → 0 < q → IsApart changed s q (at Gone tasks q) → IsWatched sets s q (at Gone tasks q)

-- the pairs of each other process stay
abbrev pub AreOthersPairs : ℕ → PairSet → PairSet → Type 0
AreOthersPairs p pairs pairs' = (q n : ℕ) → (q ≡ p → ⊥) → has pairs' n q ≡ has pairs n q

-- a child that is born is awake
abbrev pub welcomed : RunQueue → ℕ → PtraceEvent UserState → RunQueue
welcomed sets child Plain = sets
welcomed sets child Execed = sets
welcomed sets child (Forked newborn) = record sets {
  awake = maps.insert sets.awake child tt;
  asleep = maps.remove sets.asleep child;
}

-- the sets differ in one process alone
abbrev pub IsSameBut : RunQueue → RunQueue → ℕ → Type 0
IsSameBut sets sets' p =
    (sets.known ≡ true) × ((q : ℕ) → (q ≡ p → ⊥)
    → (maps.get sets'.awake q ≡ maps.get sets.awake q)
    × (maps.get sets'.asleep q ≡ maps.get sets.asleep q)
    × ((n : ℕ) → has sets'.by_pipe n q ≡ has sets.by_pipe n q))
