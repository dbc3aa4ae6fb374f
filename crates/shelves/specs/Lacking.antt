-- What is known of the numbers that a map lacks.
use Rattle.std.specs.Prelude.{◌≡◌, ◌≤◌, ◌<◌, ◌+◌, ◌==◌, ℕ, true, None, IsSome, nat_lt, if◌then◌else◌}
use Rattle.std.specs.Ordering.{nat_cmp}
use Rattle.std.specs.FinMap as maps
use Rattle.std.specs.FinMap.{FinMap}
use Rattle.shelves.specs.declared.vacancies.Vacancies.{Vacancies}

-- it has none from the top on, and lacks the holes of those below
pub record AreVacancies {V : Type 0} (m : FinMap nat_cmp V) (v : Vacancies) : Type 0 where
  pub above : (q : ℕ) → v.top ≤ q → maps.get m q ≡ None
  pub lacks : (q : ℕ) → IsSome (maps.get v.holes q) → (q < v.top) × (maps.get m q ≡ None)
  pub has : (q : ℕ) → q < v.top → maps.get v.holes q ≡ None → IsSome (maps.get m q)

-- as long as it is known
abbrev pub Knows : {V : Type 0} → FinMap nat_cmp V → Vacancies → Type 0
Knows m v = v.known ≡ true → AreVacancies m v

-- a number is there, which is the top or below it
abbrev pub taken : Vacancies → ℕ → Vacancies
taken v n = if nat_lt n v.top then record v { holes = maps.remove v.holes n } else record v { top = n + 1 }

-- a number below the top is there no longer
abbrev pub left : Vacancies → ℕ → Vacancies
left v n = if n + 1 == v.top then record v { top = n } else record v { holes = maps.insert v.holes n tt }

-- it is the least hole, or the top where there is none
pub record IsFirstHole (v : Vacancies) (n : ℕ) : Type 0 where
  pub known : v.known ≡ true
  pub is : maps.get v.holes n ≡ None → n ≡ v.top
  pub before : (q : ℕ) → q < n → maps.get v.holes q ≡ None
