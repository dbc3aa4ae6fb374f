-- The next able process in the cycle of pids.
use Rattle.std.specs.Prelude.{◌≡◌, ℕ, zero, suc, ◌+◌, ◌-◌, ◌<◌, min, Bool, false, cond, Option, Some, None}

-- the first of n pids from p on that is able
abbrev pub first_able : (ℕ → Bool) → ℕ → ℕ → Option ℕ
first_able able p zero = None
first_able able p (suc n) = cond (able p) (Some p) (first_able able (p + 1) n)

abbrev pub found_or : Option ℕ → Option ℕ → Option ℕ
found_or (Some p) q = Some p
found_or None q = q

-- those above the last one up to the last pid, then those up to it
unfoldable pub next_able : (ℕ → Bool) → ℕ → ℕ → Option ℕ
next_able able last_pid last =
    found_or (first_able able (min last last_pid + 1) (last_pid - min last last_pid))
    (first_able able 1 (min last last_pid))

-- a place where a search goes on above a pid: none before it is able, and none at all where there is no such place
abbrev pub IsNextPlace : (ℕ → Bool) → ℕ → Option ℕ → Type 0
IsNextPlace able p None = (n : ℕ) → p < n → able n ≡ false
IsNextPlace able p (Some q) = (p < q) × ((n : ℕ) → p < n → n < q → able n ≡ false)
