-- Places spread over a list.
use Rattle.std.specs.Prelude.{ℕ, zero, suc, ◌+◌, ◌-◌, ◌/◌, nat_lt, cond, List, [], ◌∷◌, ◌++◌}
use Rattle.turn_orders.specs.declared.places.Gap.{Gap}

-- the gap between two places, if another is between them
abbrev pub gap_between : ℕ → ℕ → List Gap
gap_between from to =
    cond (nat_lt 1 (to - from)) (record { from = from; middle = from + (to - from) / 2; to = to } ∷ []) []

abbrev pub halves : Gap → List Gap
halves g = gap_between g.from g.middle ++ gap_between g.middle g.to

-- the middles of gaps, and then those of their halves, so many at most
abbrev pub middles : ℕ → List Gap → List ℕ
middles zero gs = []
middles (suc n) [] = []
middles (suc n) (g ∷ gs) = g.middle ∷ middles n (gs ++ halves g)

-- the first and the last of so many places
abbrev pub ends : ℕ → List ℕ
ends n = cond (nat_lt 0 n) (0 ∷ []) [] ++ cond (nat_lt 1 n) ((n - 1) ∷ []) []

-- so many places: the first, the last, and then the middles of gaps
unfoldable pub spread : ℕ → List ℕ
spread n = ends n ++ middles n (gap_between 0 (n - 1))
