-- The results of runs, each told once.
use Rattle.std.specs.Prelude.{◌≡◌, ℕ, suc, ◌-◌, ◌^◌, nat_lt, min, if◌then◌else◌, List, [], ◌∷◌, ◌++◌, length, set, All, Bool, true, false, not, Option, Some, None}
use Rattle.std.specs.List.{slice_get}
use Rattle.lx_abi.specs.declared.schedule.Word.{Word}
use Rattle.sweep_rows.specs.Endings.{EndsAs, Leaves}
use Rattle.sweep_rows.specs.declared.endings.Ending.{Ending}
use Rattle.turn_orders.specs.Met.{has, with_order}
use Rattle.sweep_orders.specs.declared.found.Found.{Found}
use Rattle.sweep_orders.specs.declared.trials.Trial.{Trial}

-- both have come to their end or neither, with one status, console and files
pub record IsSame (a b : Ending) : Type 0 where
  pub alive : a.alive ≡ b.alive
  pub ends : EndsAs a b
  pub leaves : Leaves a.outcome b.outcome

-- the place of the result that a run has
abbrev pub IsPlace : List Found → Ending → Option ℕ → Type 0
IsPlace found ending (Some i) = (f : Found) × (slice_get found i ≡ Some f) × IsSame f.ending ending
IsPlace found ending None = All (λ f. IsSame f.ending ending → ⊥) found

abbrev pub times_after : ℕ → Bool → ℕ
times_after times true = min (suc times) (2 ^ 64 - 1)
times_after times false = times

-- once more, by a new order or not, and by these words where they are fewer
abbrev pub more : Found → Bool → List Word → Found
more f new words = record f {
  times = times_after f.times new;
  words = if nat_lt (length words) (length f.words) then words else f.words;
}

abbrev pub first : Ending → List Word → Found
first ending words = record { ending = ending; times = 1; words = words }

abbrev pub IsCounted : List Found → Bool → Ending → List Word → List Found → Option ℕ → Type 0
IsCounted before new ending words after (Some i) =
    (f : Found) → slice_get before i ≡ Some f → after ≡ set before i (more f new words)
IsCounted before new ending words after None = after ≡ before ++ first ending words ∷ []

-- a run by these words that left this, by a new order or not, is counted: with those of the same result, or as the first
-- of its own
abbrev pub CountsIn : List Found → Bool → Ending → List Word → List Found → Type 0
CountsIn before new ending words after =
    (place : Option ℕ) × IsPlace before ending place × IsCounted before new ending words after place

-- what is told of runs: their results, and the orders that they had
pub record Told : Type 0 where
  pub found : List Found
  pub met : List (List ℕ)

abbrev pub none_told : Told
none_told = record { found = []; met = [] }

-- a run is counted
pub record Counts (before : Told) (t : Trial) (after : Told) : Type 0 where
  pub met : after.met ≡ with_order before.met t.order.items
  pub found : CountsIn before.found (not (has before.met t.order.items)) t.ending t.words after.found

-- these are, one after the other
abbrev pub CountsAll : List Trial → Told → Told → Type 0
CountsAll [] before after = after ≡ before
CountsAll (t ∷ ts) before after = (b : Told) × Counts before t b × CountsAll ts b after
