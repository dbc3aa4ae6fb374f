-- Which failures are tried, where not all of them may be.
use Rattle.std.specs.Prelude.{◌≡◌, ℕ, suc, ◌==◌, ◌&&◌, cond, Bool, List, [], ◌∷◌, ◌++◌, length}
use Rattle.std.specs.Prelude.{take, Option, None, Some, IsPermutation}
use Rattle.std.specs.List.{flat_map, slice_get}
use Rattle.std.specs.Option.{option_to_list}
use Rattle.sweep_command.specs.declared.choosing.Kind.{Kind}
use Rattle.sweep_rows.specs.declared.wanted.Case.{Case}
use Rattle.turn_orders.specs.Novelty.{novel}

-- cases are of one kind that have the same error, and calls of one site
abbrev pub is_kind : Kind → Kind → Bool
is_kind a b = (a.error == b.error) && (a.site == b.site)

abbrev pub kind_of : Case → ℕ → Kind
kind_of c site = record { error = c.error.number; site = site }

abbrev pub kinds_of : List Case → List ℕ → List Kind
kinds_of [] sites = []
kinds_of (c ∷ cs) [] = []
kinds_of (c ∷ cs) (s ∷ sites) = kind_of c s ∷ kinds_of cs sites

-- the place of a kind among those that were met; how many these are, where it isn't one of them
abbrev pub place_in : List Kind → Kind → ℕ
place_in [] k = 0
place_in (m ∷ ms) k = cond (is_kind m k) 0 (suc (place_in ms k))

abbrev pub met_with : List Kind → Kind → List Kind
met_with ms k = cond (place_in ms k == length ms) (ms ++ k ∷ []) ms

abbrev pub met_after : List Kind → List Kind → List Kind
met_after ms [] = ms
met_after ms (k ∷ ks) = met_after (met_with ms k) ks

-- kinds by numbers, in the order in which they are met
abbrev pub numbers_of : List Kind → List Kind → List ℕ
numbers_of ms [] = []
numbers_of ms (k ∷ ks) = place_in ms k ∷ numbers_of (met_with ms k) ks

abbrev pub case_at : List Case → ℕ → List Case
case_at cases i = option_to_list (slice_get cases i)

-- of each kind the first, then of each the last, and then the middles of gaps
abbrev pub by_novelty : List Case → List ℕ → List Case
by_novelty cases sites =
    flat_map (case_at cases)
    (novel (numbers_of [] (kinds_of cases sites)) (length (met_after [] (kinds_of cases sites))))

-- all of them, where no number is given; otherwise so many at most: the first, where each case has a site
abbrev pub AreChosen : Option ℕ → List Case → List Case → Type 0
AreChosen None cases chosen = chosen ≡ cases
AreChosen (Some most) cases chosen =
    (sites : List ℕ) × (length sites ≡ length cases) × (chosen ≡ take most (by_novelty cases sites))

-- The law: none of these cases is lost, and none comes twice
abbrev pub LosesNone : Type 0
LosesNone =
    (cases : List Case) (sites : List ℕ) → length sites ≡ length cases → IsPermutation cases (by_novelty cases sites)
