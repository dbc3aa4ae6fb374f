-- Numbers that options give.
use Rattle.std.specs.Prelude.{ℕ, List, Option, Some, None, nat_le, if◌then◌else◌}
use Rattle.tr_expr.specs.Numbers.{number}

-- the number that decimal digits alone spell, if it is at most so much
abbrev pub decimal : ℕ → List ℕ → Option ℕ
decimal most digits = number 10 0 most digits

abbrev pub if_positive : Option ℕ → Option ℕ
if_positive None = None
if_positive (Some n) = if nat_le 1 n then Some n else None

-- the same, if it is at least 1
abbrev pub positive : ℕ → List ℕ → Option ℕ
positive most digits = if_positive (decimal most digits)

-- the number that an option's value spells, or the default where it isn't given
abbrev pub given_or : ℕ → ℕ → Option (List ℕ) → Option ℕ
given_or most default None = Some default
given_or most default (Some digits) = decimal most digits

-- the most turns or events, by the value of --limit
abbrev pub limit_of : Option (List ℕ) → Option ℕ
limit_of value = given_or 18446744073709551615 10000000 value
