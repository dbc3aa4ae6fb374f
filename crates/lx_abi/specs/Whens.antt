-- Where the occurrences that are meant end (strace(1), Tampering, `when`).
use Rattle.std.specs.Prelude.{ℕ, Option, Some, None, Bool, true, nat_le}

-- not after the last
abbrev pub up_to : Option ℕ → ℕ → Bool
up_to None n = true
up_to (Some last) n = nat_le n last
