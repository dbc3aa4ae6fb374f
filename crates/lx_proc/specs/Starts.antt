-- How much of a program's start a word takes (execve(2), "Limits on size of arguments and environment").
use Rattle.std.specs.Prelude.{ℕ, ◌+◌, List, length}
use Rattle.lx_abi.specs.Limits.{word_cost}

-- its bytes, its NUL and its pointer
abbrev pub cost_of : List ℕ → ℕ
cost_of word = length word + word_cost
