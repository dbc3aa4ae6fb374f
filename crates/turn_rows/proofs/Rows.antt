-- Rows of turns, with more turns in the last.
use Rattle.std.proofs.Common.{◌≡◌, ℕ, zero, suc, Bool, true, false, List, [], ◌∷◌, ◌++◌, Result, Ok, Err, length, set, get_or, replicate, if◌then◌else◌, refl, sym, ap, subst, ◌∙◌, arith, append-nil, append_assoc}
use Rattle.turn_rows.specs.Cycles.{rounds_of, turns_in, all_turns, LengthensTo, RowsAreRounds}
use Rattle.turn_rows.specs.declared.row.TurnRow.{TurnRow}
use Rattle.turn_rows.specs.declared.row.TurnRow.TheVariants.{Run, Cycle}

pub all_turns-append : (rows : List TurnRow) (r : TurnRow) → all_turns (rows ++ r ∷ []) ≡ all_turns rows ++ turns_in r
all_turns-append [] r = append-nil (turns_in r)
all_turns-append (x ∷ rows) r = ap (λ t. turns_in x ++ t) (all_turns-append rows r) ∙ sym (append_assoc (turns_in x) (all_turns rows) (turns_in r))

-- the last row has more turns
pub all_turns-last : (rows : List TurnRow) (n : ℕ) (r d longer : TurnRow) (xs : List ℕ) → length rows ≡ suc n → get_or rows n d ≡ r → turns_in longer ≡ turns_in r ++ xs → all_turns (set rows n longer) ≡ all_turns rows ++ xs
all_turns-last [] n r d longer xs l at more = absurd (omega arith)
all_turns-last (x ∷ []) zero r d longer xs l at more =
    append-nil (turns_in longer) ∙ more ∙ ap (λ y. turns_in y ++ xs) (sym at) ∙ ap (λ t. t ++ xs) (sym (append-nil (turns_in x)))
all_turns-last (x ∷ y ∷ rows) zero r d longer xs l at more = absurd (omega arith)
all_turns-last (x ∷ []) (suc n) r d longer xs l at more = absurd (omega arith)
all_turns-last (x ∷ y ∷ rows) (suc n) r d longer xs l at more =
    ap (λ t. turns_in x ++ t) (all_turns-last (y ∷ rows) n r d longer xs (omega arith) at more) ∙ sym (append_assoc (turns_in x) (all_turns (y ∷ rows)) xs)

-- the last row is lengthened, and so are all
pub all_lengthen : {E : Type 0} (rows : List TurnRow) (n : ℕ) (r d longer : TurnRow) (pid : ℕ) (result : Result Bool E) → length rows ≡ suc n → get_or rows n d ≡ r → LengthensTo (turns_in r) pid result (turns_in longer) → LengthensTo (all_turns rows) pid result (all_turns (set rows n longer))
all_lengthen rows n r d longer pid (Ok true) l at more = all_turns-last rows n r d longer (pid ∷ []) l at more
all_lengthen rows n r d longer pid (Ok false) l at more = all_turns-last rows n r d longer [] l at (more ∙ sym (append-nil (turns_in r))) ∙ append-nil (all_turns rows)
all_lengthen rows n r d longer pid (Err e) l at more = all_turns-last rows n r d longer [] l at (more ∙ sym (append-nil (turns_in r))) ∙ append-nil (all_turns rows)

-- so many turns are added to the last row, or none
pub all_added : (rows : List TurnRow) (n : ℕ) (r d longer : TurnRow) (more pid : ℕ) (result : Bool) → length rows ≡ suc n → get_or rows n d ≡ r → turns_in longer ≡ (if result then turns_in r ++ replicate more pid else turns_in r)
    → all_turns (set rows n longer) ≡ (if result then all_turns rows ++ replicate more pid else all_turns rows)
all_added rows n r d longer more pid true l at e = all_turns-last rows n r d longer (replicate more pid) l at e
all_added rows n r d longer more pid false l at e = all_turns-last rows n r d longer [] l at (e ∙ sym (append-nil (turns_in r))) ∙ append-nil (all_turns rows)

-- a row that is another's is left
pub not_lengthened : (E : Type 0) (result : Result Bool E) (before : List ℕ) (pid : ℕ) (b : Bool) (after : List ℕ) → result ≡ Ok b → b ≡ false → LengthensTo before pid result after → after ≡ before
not_lengthened E result before pid b after is e h = subst (λ r. LengthensTo before pid r after) (is ∙ ap Ok e) h

-- so many turns of one process are so many rounds
pub rounds_of-one : (n p : ℕ) → replicate n p ≡ rounds_of n (p ∷ [])
rounds_of-one zero p = refl
rounds_of-one (suc n) p = replicate_more n p ∙ ap (λ t. t ++ p ∷ []) (rounds_of-one n p)
  where
    replicate_more : (n p : ℕ) → replicate (suc n) p ≡ replicate n p ++ p ∷ []
    replicate_more zero p = refl
    replicate_more (suc n) p = ap (λ t. p ∷ t) (replicate_more n p)

pub rows_as_rounds : RowsAreRounds
rows_as_rounds (Run pid turns) = rounds_of-one turns pid ∙ sym (append-nil (rounds_of turns (pid ∷ [])))
rows_as_rounds (Cycle c) = refl
