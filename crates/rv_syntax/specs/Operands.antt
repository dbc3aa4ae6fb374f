-- Operands, separated by commas. Each is read with what follows it; None where the text does not begin with one.
use Rattle.std.specs.Prelude.{ℕ, false, ◌||◌, List, [], ◌∷◌, length, slice_index, Option, Some, None, option_and_then, ◌==◌, if◌then◌else◌}
use Rattle.rv_isa.specs.declared.register.Register.{Register}
use Rattle.rv_syntax.specs.declared.numbers.Number.{Number}
use Rattle.rv_syntax.specs.Text.{word_at, after_mark, is_done, is_digit}
use Rattle.rv_syntax.specs.Names.{register_of}
use Rattle.rv_syntax.specs.Numbers.{number_at, signed}

infixl 10 ◌>>=◌
abbrev pub ◌>>=◌ : {A B : Type 0} → Option A → (A → Option B) → Option B
o >>= f = option_and_then f o

unfoldable pub register_at : List ℕ → Option (Register × List ℕ)
register_at t = do
  r ← register_of (word_at t).0
  Some (r, (word_at t).1)

-- a name does not begin with a digit
unfoldable pub name_at : List ℕ → Option (List ℕ × List ℕ)
name_at t = if (length (word_at t).0 == 0) || is_digit (slice_index (word_at t).0 0) then None else Some (word_at t)

-- a comma, and the operand behind it
abbrev pub next : {A : Type 0} → (List ℕ → Option (A × List ℕ)) → List ℕ → Option (A × List ℕ)
next read t = after_mark 44 t >>= read

-- the line ends here
abbrev pub ended : {A : Type 0} → List ℕ → A → Option A
ended t x = if is_done t then Some x else None

unfoldable pub three_registers : List ℕ → Option (Register × Register × Register)
three_registers t = do
  a ← register_at t
  b ← next register_at a.1
  c ← next register_at b.1
  ended c.1 (a.0, b.0, c.0)

unfoldable pub two_registers : List ℕ → Option (Register × Register)
two_registers t = do
  a ← register_at t
  b ← next register_at a.1
  ended b.1 (a.0, b.0)

unfoldable pub two_and_number : List ℕ → Option (Register × Register × Number)
two_and_number t = do
  a ← register_at t
  b ← next register_at a.1
  c ← next number_at b.1
  ended c.1 (a.0, b.0, c.0)

unfoldable pub register_and_number : List ℕ → Option (Register × Number)
register_and_number t = do
  a ← register_at t
  b ← next number_at a.1
  ended b.1 (a.0, b.0)

-- an offset is 0 where it is left out
abbrev pub offset_or_none : Option (List ℕ) → List ℕ → Option (Number × List ℕ)
offset_or_none (Some rest) t = Some (signed false 0, t)
offset_or_none None t = number_at t

unfoldable pub offset_at : List ℕ → Option (Number × List ℕ)
offset_at t = offset_or_none (after_mark 40 t) t

-- a register, an offset, and a base in parentheses
unfoldable pub memory_operands : List ℕ → Option (Register × Number × Register)
memory_operands t = do
  a ← register_at t
  b ← next offset_at a.1
  open_mark ← after_mark 40 b.1
  c ← register_at open_mark
  rest ← after_mark 41 c.1
  ended rest (a.0, b.0, c.0)

unfoldable pub two_and_label : List ℕ → Option (Register × Register × List ℕ)
two_and_label t = do
  a ← register_at t
  b ← next register_at a.1
  c ← next name_at b.1
  ended c.1 (a.0, b.0, c.0)

unfoldable pub register_and_label : List ℕ → Option (Register × List ℕ)
register_and_label t = do
  a ← register_at t
  b ← next name_at a.1
  ended b.1 (a.0, b.0)

unfoldable pub lone_label : List ℕ → Option (List ℕ)
lone_label t = do
  a ← name_at t
  ended a.1 a.0

unfoldable pub lone_number : List ℕ → Option Number
lone_number t = do
  a ← number_at t
  ended a.1 a.0

-- the numbers of pieces of text, each of which is one
abbrev pub numbers_of : List (List ℕ) → Option (List Number)
numbers_of [] = Some []
numbers_of (t ∷ ts) = do
  n ← lone_number t
  ns ← numbers_of ts
  Some (n ∷ ns)
