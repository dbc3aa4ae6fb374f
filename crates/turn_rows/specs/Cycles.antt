-- Turns that are kept as rows.
use Rattle.std.specs.Prelude.{◌≡◌, ℕ, zero, suc, Bool, true, false, List, [], ◌∷◌, ◌++◌, take, replicate, Result, Ok, Err}
use Rattle.turn_rows.specs.declared.cycle.Cycle.{Cycle as Cycle_type}
use Rattle.turn_rows.specs.declared.row.TurnRow.{TurnRow}
use Rattle.turn_rows.specs.declared.row.TurnRow.TheVariants.{Run, Cycle}

-- so many rounds
abbrev pub rounds_of : ℕ → List ℕ → List ℕ
rounds_of zero round = []
rounds_of (suc n) round = rounds_of n round ++ round

-- whole rounds, and a beginning of the next
abbrev pub cycled : Cycle_type → List ℕ
cycled c = rounds_of c.rounds c.pids.items ++ take c.at c.pids.items

abbrev pub turns_in : TurnRow → List ℕ
turns_in (Run pid turns) = replicate turns pid
turns_in (Cycle c) = cycled c.value

-- its rounds, and the turns behind them, which a row of one process hasn't
abbrev pub round_in : TurnRow → List ℕ
round_in (Run pid turns) = pid ∷ []
round_in (Cycle c) = c.value.pids.items

abbrev pub rounds_in : TurnRow → ℕ
rounds_in (Run pid turns) = turns
rounds_in (Cycle c) = c.value.rounds

abbrev pub rest_in : TurnRow → List ℕ
rest_in (Run pid turns) = []
rest_in (Cycle c) = take c.value.at c.value.pids.items

-- a row is its rounds, and then its rest
abbrev pub RowsAreRounds : Type 0
RowsAreRounds = (r : TurnRow) → turns_in r ≡ rounds_of (rounds_in r) (round_in r) ++ rest_in r

abbrev pub all_turns : List TurnRow → List ℕ
all_turns [] = []
all_turns (r ∷ rs) = turns_in r ++ all_turns rs

-- there is one more turn, where the result says so
abbrev pub LengthensTo : {E : Type 0} → List ℕ → ℕ → Result Bool E → List ℕ → Type 0
LengthensTo before pid (Ok true) after = after ≡ before ++ pid ∷ []
LengthensTo before pid (Ok false) after = after ≡ before
LengthensTo before pid (Err e) after = after ≡ before
