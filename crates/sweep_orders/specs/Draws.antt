-- Orders by chance: for each step one of the processes that can go on is drawn, until the run ends (O'Neill's generator
-- PCG32).
use Rattle.std.specs.Prelude.{◌≡◌, ℕ, zero, suc, ◌-◌, ◌%◌, ◌<◌, ◌==◌, ◌||◌, Bool, true, false, not, List, [], ◌∷◌, length, slice_index, Option, Some, None}
use Rattle.lx_kernel.specs.Runs.{Run, after_turn, is_able_in}
use Rattle.pt_schedule.specs.Schedules.{goes_on}
use Rattle.pt_schedule.specs.Untraced.{readiness_of}
use Rattle.rand_pcg.specs.Lcg.{Lcg, started, increment_of}
use Rattle.rand_pcg.specs.Pcg.{multiplier_64, pcg32}

-- the generator for the order with this number
abbrev pub chance_of : ℕ → ℕ → Lcg
chance_of seed n = started 64 multiplier_64 seed (increment_of 64 n)

-- one of these processes
abbrev pub chosen : List ℕ → ℕ → ℕ
chosen pids word = slice_index pids (word % length pids)

-- the first process above this one that can go on
abbrev pub IsNextAbove : Run → ℕ → Option ℕ → Type 0
IsNextAbove k last None = (q : ℕ) → last < q → is_able_in k q → ⊥
IsNextAbove k last (Some p) =
    (last < p) × is_able_in k p × ((q : ℕ) → last < q → q < p → is_able_in k q → ⊥)

-- all above this one that can go on, in order
abbrev pub AreAble : Run → ℕ → List ℕ → Type 0
AreAble k last [] = IsNextAbove k last None
AreAble k last (p ∷ ps) = IsNextAbove k last (Some p) × AreAble k p ps

-- A step is over: there is no turn left, the process can't go on, or a call of it has returned, whose end its last turn
-- began at or not
abbrev pub is_over : ℕ → Run → ℕ → Bool → Bool
is_over left k p finished = (left == 0) || not (goes_on (readiness_of k) (record { pid = p; finished = finished }))

-- it is after this turn
abbrev pub ends : ℕ → Run → ℕ → Bool
ends left k p = is_over (left - 1) (after_turn k p) p ((readiness_of k).finished p)

-- a turn of the process from k on, and so many behind it up to the end of its step, where so many are left
abbrev pub Turns : ℕ → ℕ → Run → ℕ → Run → Type 0
Turns zero left k p z = (0 < left) × (ends left k p ≡ true) × (z ≡ after_turn k p)
Turns (suc n) left k p z = (0 < left) × (ends left k p ≡ false) × Turns n (left - 1) (after_turn k p) p z

-- a step from k to z, and how many turns are left behind it
pub record IsStep (left : ℕ) (k : Run) (p : ℕ) (after : ℕ) (z : Run) : Type 0 where
  pub more : ℕ
  pub turns : Turns more left k p z
  pub after_is : after ≡ left - suc more

-- of those that can go on from k one is drawn, which makes a step
pub record IsDraw (left : ℕ) (k : Run) (chance : Lcg) (p after : ℕ) (z : Run) : Type 0 where
  pub able : List ℕ
  pub are_able : AreAble k 0 able
  pub some : 0 < length able
  pub drawn : p ≡ chosen able (pcg32 chance).0
  pub step : IsStep left k p after z

-- a run from k to z, whose steps these processes make
abbrev pub IsDrawn : List ℕ → ℕ → Run → Lcg → Run → Type 0
IsDrawn [] left k chance z = (z ≡ k) × (0 < left → AreAble k 0 [])
IsDrawn (p ∷ ps) left k chance z =
    (after : ℕ) × (k' : Run) × IsDraw left k chance p after k' × IsDrawn ps after k' (pcg32 chance).1 z
