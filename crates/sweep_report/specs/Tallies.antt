-- How many runs came to what.
use Rattle.std.specs.Prelude.{ℕ, ◌+◌, ◌==◌, ◌||◌, nat_lt, Bool, false, cond, List, [], ◌∷◌, ◌++◌, map}
use Rattle.std.specs.List.{flat_map, list_any}
use Rattle.sweep_rows.specs.Summary.{count, rank}
use Rattle.sweep_report.specs.Findings.{counts}
use Rattle.sweep_rows.specs.declared.verdicts.Verdict.{Verdict}
use Rattle.sweep_rows.specs.declared.verdicts.Verdict.TheVariants.{Hung, Killed, Broken, Torn, Lost, Dropped, Damaged}
use Rattle.sweep_rows.specs.declared.verdicts.Verdict.TheVariants.{Warned, Reported, Recovered, Ignored}
use Rattle.sweep_rows.specs.declared.row.Row.{Row}
use Rattle.sweep_report.specs.declared.tally.Kind.{Kind}

abbrev pub verdicts_in : List Row → List Verdict
verdicts_in rows = map (λ r. r.verdict) rows

abbrev pub is_marked : List Bool → Bool
is_marked [] = false
is_marked (m ∷ ms) = m

abbrev pub behind : List Bool → List Bool
behind [] = []
behind (m ∷ ms) = ms

abbrev pub unless : Bool → Row → List Verdict
unless marked r = cond marked [] (r.verdict ∷ [])

-- the verdicts of rows that aren't marked
abbrev pub unmarked : List Bool → List Row → List Verdict
unmarked marks [] = []
unmarked marks (r ∷ rs) = unless (is_marked marks) r ++ unmarked (behind marks) rs

abbrev pub findings_in : Bool → List Verdict → ℕ
findings_in strict [] = 0
findings_in strict (v ∷ vs) = cond (counts strict v) 1 0 + findings_in strict vs

-- the worst first
abbrev pub all_verdicts : List Verdict
all_verdicts =
    Hung ∷ Killed ∷ Broken ∷ Torn ∷ Lost ∷ Dropped ∷ Damaged ∷ Warned ∷ Reported ∷ Recovered ∷ Ignored ∷ []

abbrev pub is_among : List Verdict → Verdict → Bool
is_among verdicts v = list_any (λ one. rank one == rank v) verdicts

-- one that so many runs have is told: some run has it, or it is always told
abbrev pub is_told : List Verdict → Verdict → ℕ → Bool
is_told always v runs = nat_lt 0 runs || is_among always v

abbrev pub kind_of : List Verdict → List Verdict → Verdict → List Kind
kind_of always verdicts v =
    cond (is_told always v (count v verdicts)) (record { verdict = v; runs = count v verdicts } ∷ []) []

-- the verdicts that some run has, and those that are always told
abbrev pub kinds_with : List Verdict → List Verdict → List Kind
kinds_with always verdicts = flat_map (kind_of always verdicts) all_verdicts

-- those alone that some run has
abbrev pub kinds_of : List Verdict → List Kind
kinds_of verdicts = kinds_with [] verdicts
