-- One more row of the table of calls: what a loop over rows has found, and what it finds next.
use Rattle.std.proofs.Common.{ℕ, suc, ◌≡◌, ◌+◌, ◌<◌, ◌≤◌, ◌∙◌, List, [], Bool, ◌||◌, ◌&&◌, ◌==◌, map, take, length, get_or, ap, sym, arith, Bor}
use Rattle.std.proofs.Math.Seq.{take-suc}
use Rattle.std.proofs.lemmas.List.{take_all}
use Rattle.lx_abi.specs.Scripts.{among}
use Rattle.lx_abi.specs.Calls.{Row}
use Rattle.lx_abi.specs.Tables.{call_row}
use Rattle.lx_abi.specs.declared.calls.Argument.{Argument}
use Rattle.lx_abi.specs.declared.calls.Class.{Class}
use Rattle.lx_abi.specs.declared.effects.Effects.{Effects}
use Rattle.tr_expr.specs.Items.{some_row}
use Rattle.tr_expr.proofs.Runs.{map_push, any_push}

abbrev pub Entry : Type 0
Entry = ℕ × Bor (List ℕ) × Bor (List Class) × Effects × Bor (List Argument) × Bor (List Argument)

-- what is read past the end
abbrev pub no_entry : Entry
no_entry = (0, record { ref_ptr = (0, 0); now = [] }, record { ref_ptr = (0, 0); now = [] }, record { 0 = 0 }, record { ref_ptr = (0, 0); now = [] }, record { ref_ptr = (0, 0); now = [] })

abbrev pub entry_at : List Entry → ℕ → Entry
entry_at rows i = get_or rows i no_entry

pub some_row_push : (test : Row → Bool) (rows : List Entry) (i n : ℕ) → i < length rows
    → some_row test (map call_row (take (i + 1) rows)) n
    ≡ (some_row test (map call_row (take i rows)) n || (((entry_at rows i).0 == n) && test (call_row (entry_at rows i))))
some_row_push test rows i n small =
    ap (λ k. some_row test (map call_row (take k rows)) n) (let e : i + 1 ≡ suc i = omega arith in e)
    ∙ (ap (λ xs. some_row test (map call_row xs) n) (take-suc rows i no_entry small)
    ∙ (ap (λ xs. some_row test xs n) (map_push call_row (take i rows) (entry_at rows i))
    ∙ any_push (λ row. (row.0 == n) && test row) (map call_row (take i rows)) (call_row (entry_at rows i))))

-- a number that is kept after the numbers of the rows before
pub kept : (test : Row → Bool) (rows : List Entry) (i n : ℕ) (numbers numbers' : List ℕ) (is_kept : Bool) → i < length rows
    → among numbers n ≡ some_row test (map call_row (take i rows)) n
    → among numbers' n ≡ (among numbers n || (((entry_at rows i).0 == n) && is_kept))
    → is_kept ≡ test (call_row (entry_at rows i))
    → among numbers' n ≡ some_row test (map call_row (take (i + 1) rows)) n
kept test rows i n numbers numbers' is_kept small before more same =
    more
    ∙ (ap (λ b. b || (((entry_at rows i).0 == n) && is_kept)) before
    ∙ (ap (λ b. some_row test (map call_row (take i rows)) n || (((entry_at rows i).0 == n) && b)) same
    ∙ sym (some_row_push test rows i n small)))

-- once every row was looked at
pub kept_all : (test : Row → Bool) (rows : List Entry) (table : List Row) (i n : ℕ) (numbers : List ℕ) → length rows ≤ i
    → map call_row rows ≡ table
    → among numbers n ≡ some_row test (map call_row (take i rows)) n
    → among numbers n ≡ some_row test table n
kept_all test rows table i n numbers past is so =
    so
    ∙ (ap (λ xs. some_row test (map call_row xs) n) (take_all i rows past) ∙ ap (λ xs. some_row test xs n) is)
