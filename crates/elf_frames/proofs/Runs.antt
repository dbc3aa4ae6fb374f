-- Instructions one after the other.
use Rattle.std.proofs.Common.{ℕ, zero, suc, ◌≡◌, ◌∙◌, List, Option, Some, None, true, false, refl, sym}
use Rattle.elf_frames.specs.declared.entries.Cie.{Cie}
use Rattle.elf_frames.specs.declared.rows.Run.{Run}
use Rattle.elf_frames.specs.Rows.{run_from, ends, stepped}

none_stays : (cie : Cie) (address : ℕ) (bytes : List ℕ) (n : ℕ) → run_from n cie address bytes None ≡ None
unfolding run_from
none_stays cie address bytes zero = refl
none_stays cie address bytes (suc n) = refl

pub unread : (cie : Cie) (address : ℕ) (bytes : List ℕ) (n m : ℕ) (r : Run) (total : Option Run) → n ≡ suc m
    → ends bytes r ≡ false → stepped cie address bytes r ≡ None → run_from n cie address bytes (Some r) ≡ total → total ≡ None
unfolding run_from
unread cie address bytes n m r total k more none so_far =
    let here : run_from n cie address bytes (Some r) ≡ None = rw (k, more, none, none_stays cie address bytes m) refl in
    sym so_far ∙ here

pub ended : (cie : Cie) (address : ℕ) (bytes : List ℕ) (n m : ℕ) (r : Run) (total : Option Run) → n ≡ suc m
    → ends bytes r ≡ true → run_from n cie address bytes (Some r) ≡ total → total ≡ Some r
unfolding run_from
ended cie address bytes n m r total k end so_far =
    let here : run_from n cie address bytes (Some r) ≡ Some r = rw (k, end) refl in
    sym so_far ∙ here

pub one_more : (cie : Cie) (address : ℕ) (bytes : List ℕ) (n m : ℕ) (r after : Run) (total : Option Run) → n ≡ suc m
    → ends bytes r ≡ false → stepped cie address bytes r ≡ Some after → run_from n cie address bytes (Some r) ≡ total → run_from m cie address bytes (Some after) ≡ total
unfolding run_from
one_more cie address bytes n m r after total k more is so_far =
    let here : run_from n cie address bytes (Some r) ≡ run_from m cie address bytes (Some after) = rw (k, more, is) refl in
    sym here ∙ so_far

pub all_run : (cie : Cie) (address : ℕ) (bytes : List ℕ) (n : ℕ) (r : Run) (total : Option Run) → n ≡ 0 → run_from n cie address bytes (Some r) ≡ total → total ≡ Some r
unfolding run_from
all_run cie address bytes n r total none so_far =
    let here : run_from n cie address bytes (Some r) ≡ Some r = rw none refl in
    sym so_far ∙ here
