-- What a numbered shelf ends as, where a `&mut` to one of its values is returned.
use Rattle.std.specs.Prelude.{◌≡◌, ℕ, OnSome}
use Rattle.std.specs.declared.option.Option.{Option}
use Rattle.std.specs.Borrow.{LendsSo, Fml, RattleType, MutBor}
use Rattle.std.specs.Ordering.{nat_cmp}
use Rattle.std.specs.FinMap as maps
use Rattle.std.specs.FinMap.{FinMap}
use Rattle.shelves.specs.contracts.numbered.Numbered.{the_row}

-- once the borrow r ends, the key has the last value written through r; at `None` the map stays
abbrev pub lends_at : (V : RattleType) → MutBor (FinMap nat_cmp V.Denot) → ℕ → Option (MutBor V.Denot) → Fml
lends_at V s k r = LendsSo (the_row V) V s r (λ n w. OnSome r (n ≡ maps.insert s.now k w)) (λ n. n ≡ s.now)
