-- What a write makes of bytes.
use Rattle.std.specs.Prelude.{ℕ, ◌+◌, ◌-◌, List, ◌++◌, length, take, drop, replicate}

-- the bytes, with zeros behind them up to n
abbrev pub reaching : ℕ → List ℕ → List ℕ
reaching n bytes = bytes ++ replicate (n - length bytes) 0

abbrev pub put_over : List ℕ → ℕ → List ℕ → List ℕ
put_over old at bytes = take at old ++ bytes ++ drop (at + length bytes) old

-- bytes put over those from an offset on, a gap filled with zeros
abbrev pub written : List ℕ → ℕ → List ℕ → List ℕ
written old at bytes = put_over (reaching (at + length bytes) old) at bytes
