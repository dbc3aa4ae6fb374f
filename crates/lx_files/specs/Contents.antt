-- What a write makes of a file's bytes (pwrite(2), ftruncate(2)).
use Rattle.std.specs.Prelude.{ℕ, ◌||◌, nat_lt, ◌+◌, ◌-◌, ◌==◌, List, ◌++◌, length, take, drop, replicate}
use Rattle.std.specs.Prelude.{if◌then◌else◌}

-- the first n bytes, with zeros for those that are missing
abbrev pub padded_to : ℕ → List ℕ → List ℕ
padded_to n bytes = take n bytes ++ replicate (n - length bytes) 0

-- the bytes, with zeros behind them up to n
abbrev pub reaching : ℕ → List ℕ → List ℕ
reaching n bytes = bytes ++ replicate (n - length bytes) 0

abbrev pub put_over : List ℕ → ℕ → List ℕ → List ℕ
put_over old at bytes = take at old ++ bytes ++ drop (at + length bytes) old

-- the bytes written at an offset, a gap filled with zeros; no bytes make no gap
unfoldable pub overwritten : List ℕ → ℕ → List ℕ → List ℕ
overwritten old at bytes = if length bytes == 0 then old else put_over (reaching (at + length bytes) old) at bytes

-- how many bytes there are then
abbrev pub length_after : ℕ → ℕ → ℕ → ℕ
length_after len at written = if (written == 0) || nat_lt (at + written) len then len else at + written
