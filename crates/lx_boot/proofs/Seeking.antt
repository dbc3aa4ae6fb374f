-- Files one after the other, until one is a culprit.
use Rattle.std.proofs.Common.{ℕ, ◌≡◌, ◌+◌, ◌-◌, ◌<◌, ◌≤◌, ◌∙◌, List, ◌∷◌, length, drop, take, get_or, Option, Some, None, true, false, refl, sym, ap, if◌then◌else◌, nat_lt}
use Rattle.std.specs.List.{list_any}
use Rattle.std.specs.Option.{option_or}
use Rattle.std.specs.Str.{bytes_eq}
use Rattle.std.proofs.lemmas.List.{drop_more, at_drop_all}
use Rattle.std.proofs.lemmas.Bool.{lt-ltb, le-ltb}
use Rattle.lx_abi.specs.declared.boot.GuestFile.{GuestFile}
use Rattle.lx_boot.specs.Limits.{content_size}
use Rattle.lx_boot.specs.Culprits.{misplaced, misplaced_at, repeated, oversized, oversized_at}
use Rattle.lx_boot.specs.declared.culprits.Culprit.{Culprit}
use Rattle.lx_boot.specs.declared.culprits.Culprit.TheVariants.{Repeated, LargeFiles}

dropped : (files : List GuestFile) (i : ℕ) (f : GuestFile) → i < length files → f ≡ get_or files i f → drop i files ≡ f ∷ drop (i + 1) files
dropped files i f lt is = drop_more files i f lt ∙ ap (λ (g : GuestFile). g ∷ drop (i + 1) files) (sym is)

-- ---- misplaced files

misplaced_step : (files : List GuestFile) (i : ℕ) (f : GuestFile) → i < length files → f ≡ get_or files i f
    → misplaced files i (drop i files) ≡ option_or (misplaced_at files i f.path) (misplaced files (i + 1) (drop (i + 1) files))
unfolding misplaced
misplaced_step files i f lt is = ap (misplaced files i) (dropped files i f lt is)

pub placed_more : (files : List GuestFile) (i : ℕ) (f : GuestFile) (total : Option Culprit) → i < length files → f ≡ get_or files i f → misplaced_at files i f.path ≡ None
    → misplaced files i (drop i files) ≡ total → misplaced files (i + 1) (drop (i + 1) files) ≡ total
placed_more files i f total lt is none so_far =
    sym (ap (λ o. option_or o (misplaced files (i + 1) (drop (i + 1) files))) none) ∙ (sym (misplaced_step files i f lt is) ∙ so_far)

pub misplaced_here : (files : List GuestFile) (i : ℕ) (f : GuestFile) (total : Option Culprit) (c : Culprit) → i < length files → f ≡ get_or files i f → misplaced_at files i f.path ≡ Some c
    → misplaced files i (drop i files) ≡ total → Some c ≡ total
misplaced_here files i f total c lt is some so_far =
    sym (ap (λ o. option_or o (misplaced files (i + 1) (drop (i + 1) files))) some) ∙ (sym (misplaced_step files i f lt is) ∙ so_far)

pub all_placed : (files : List GuestFile) (i : ℕ) (total : Option Culprit) → length files ≤ i → misplaced files i (drop i files) ≡ total → None ≡ total
unfolding misplaced
all_placed files i total past so_far = sym (at_drop_all (misplaced files i) files i past) ∙ so_far

-- ---- repeated paths

repeated_step : (files : List GuestFile) (i : ℕ) (f : GuestFile) → i < length files → f ≡ get_or files i f
    → repeated files i (drop i files) ≡ (if list_any (λ g. bytes_eq f.path g.path) (take i files) then Some (Repeated i) else repeated files (i + 1) (drop (i + 1) files))
unfolding repeated
repeated_step files i f lt is = ap (repeated files i) (dropped files i f lt is)

pub new_path : (files : List GuestFile) (i : ℕ) (f : GuestFile) (total : Option Culprit) → i < length files → f ≡ get_or files i f → list_any (λ g. bytes_eq f.path g.path) (take i files) ≡ false
    → repeated files i (drop i files) ≡ total → repeated files (i + 1) (drop (i + 1) files) ≡ total
new_path files i f total lt is new so_far =
    sym (ap (λ b. if b then Some (Repeated i) else repeated files (i + 1) (drop (i + 1) files)) new) ∙ (sym (repeated_step files i f lt is) ∙ so_far)

pub old_path : (files : List GuestFile) (i : ℕ) (f : GuestFile) (total : Option Culprit) → i < length files → f ≡ get_or files i f → list_any (λ g. bytes_eq f.path g.path) (take i files) ≡ true
    → repeated files i (drop i files) ≡ total → Some (Repeated i) ≡ total
old_path files i f total lt is old so_far =
    sym (ap (λ b. if b then Some (Repeated i) else repeated files (i + 1) (drop (i + 1) files)) old) ∙ (sym (repeated_step files i f lt is) ∙ so_far)

pub none_repeated : (files : List GuestFile) (i : ℕ) (total : Option Culprit) → length files ≤ i → repeated files i (drop i files) ≡ total → None ≡ total
unfolding repeated
none_repeated files i total past so_far = sym (at_drop_all (repeated files i) files i past) ∙ so_far

-- ---- files that are too large, alone or together

-- what follows a file of this size that is not too large by itself
abbrev behind : ℕ → ℕ → List GuestFile → ℕ → Option Culprit
behind room size files i = if nat_lt room size then Some (LargeFiles i) else oversized (room - size) (i + 1) (drop (i + 1) files)

oversized_step : (room : ℕ) (files : List GuestFile) (i : ℕ) (f : GuestFile) → i < length files → f ≡ get_or files i f
    → oversized room i (drop i files) ≡ option_or (oversized_at i f) (behind room (content_size f) files i)
unfolding oversized
oversized_step room files i f lt is = ap (oversized room i) (dropped files i f lt is)

pub large_here : (room : ℕ) (files : List GuestFile) (i : ℕ) (f : GuestFile) (total : Option Culprit) (c : Culprit) → i < length files → f ≡ get_or files i f → oversized_at i f ≡ Some c
    → oversized room i (drop i files) ≡ total → Some c ≡ total
large_here room files i f total c lt is some so_far =
    sym (ap (λ o. option_or o (behind room (content_size f) files i)) some) ∙ (sym (oversized_step room files i f lt is) ∙ so_far)

rest_is : (room : ℕ) (files : List GuestFile) (i : ℕ) (f : GuestFile) (total : Option Culprit) → i < length files → f ≡ get_or files i f → oversized_at i f ≡ None
    → oversized room i (drop i files) ≡ total → behind room (content_size f) files i ≡ total
rest_is room files i f total lt is none so_far =
    sym (ap (λ o. option_or o (behind room (content_size f) files i)) none) ∙ (sym (oversized_step room files i f lt is) ∙ so_far)

pub no_room : (room : ℕ) (files : List GuestFile) (i : ℕ) (f : GuestFile) (total : Option Culprit) → i < length files → f ≡ get_or files i f → oversized_at i f ≡ None → room < content_size f
    → oversized room i (drop i files) ≡ total → Some (LargeFiles i) ≡ total
no_room room files i f total lt is none small so_far =
    sym (ap (λ b. if b then Some (LargeFiles i) else oversized (room - content_size f) (i + 1) (drop (i + 1) files)) (lt-ltb room (content_size f) small)) ∙ rest_is room files i f total lt is none so_far

pub room_left : (room less : ℕ) (files : List GuestFile) (i : ℕ) (f : GuestFile) (total : Option Culprit) → i < length files → f ≡ get_or files i f → oversized_at i f ≡ None → content_size f ≤ room → less ≡ room - content_size f
    → oversized room i (drop i files) ≡ total → oversized less (i + 1) (drop (i + 1) files) ≡ total
room_left room less files i f total lt is none fits left so_far =
    ap (λ k. oversized k (i + 1) (drop (i + 1) files)) left
    ∙ (sym (ap (λ b. if b then Some (LargeFiles i) else oversized (room - content_size f) (i + 1) (drop (i + 1) files)) (le-ltb room (content_size f) fits)) ∙ rest_is room files i f total lt is none so_far)

pub none_large : (room : ℕ) (files : List GuestFile) (i : ℕ) (total : Option Culprit) → length files ≤ i → oversized room i (drop i files) ≡ total → None ≡ total
unfolding oversized
none_large room files i total past so_far = sym (at_drop_all (oversized room i) files i past) ∙ so_far
