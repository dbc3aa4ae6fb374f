-- Readers of DWARF's data (DWARF 5, 7): each gives what stands at the front of some bytes, and the bytes behind it.
use Rattle.std.specs.Prelude.{◌≡◌, ℕ, zero, suc, ◌+◌, ◌-◌, ◌*◌, ◌%◌, ◌^◌, Bool, true, false, ◌&&◌, List, [], ◌∷◌, length, take, drop, nat_le, nat_lt, ◌==◌, if◌then◌else◌, Option, Some, None}
use Rattle.byteorder.specs.Endian.{little_number}

infixl 10 ◌>>=◌
abbrev pub ◌>>=◌ : {A B : Type 0} → Option A → (A → Option B) → Option B
(Some x) >>= f = f x
None >>= f = None

-- what a function returned is what reading gives
abbrev pub Gives : {X Y : Type 0} → (X → Y) → Option X → Option Y → Type 0
Gives view (Some x) read = read ≡ Some (view x)
Gives view None read = read ≡ None

-- what follows from what was read, if anything was
abbrev pub from : {A X : Type 0} → Option A → (A → List X) → List X
from (Some x) f = f x
from None f = []

-- ---- numbers are modulo 2 ^ 64, those below 0 too

abbrev pub sum : ℕ → ℕ → ℕ
sum a b = (a + b) % 2 ^ 64

abbrev pub product : ℕ → ℕ → ℕ
product a b = (a * b) % 2 ^ 64

-- ---- readers

-- a number of n bytes, the lowest first
unfoldable pub number : ℕ → List ℕ → Option (ℕ × List ℕ)
number n bytes = if nat_lt (length bytes) n then None else Some (little_number n bytes, drop n bytes)

-- n bytes
unfoldable pub cut : ℕ → List ℕ → Option (List ℕ × List ℕ)
cut n bytes = if nat_lt (length bytes) n then None else Some (take n bytes, drop n bytes)

-- the last seven bits of a number; the highest of them is the sign, of a number that may be below 0
abbrev pub last_bits : Bool → ℕ → ℕ
last_bits signed b = if signed && nat_le 64 b then b + (2 ^ 64 - 128) else b

-- LEB128 (7.6), of at most n bytes: seven bits a byte, the lowest first, and bit 7 where more follow
unfoldable pub leb128_within : Bool → ℕ → List ℕ → Option (ℕ × List ℕ)
leb128_within signed zero bytes = None
leb128_within signed (suc n) [] = None
leb128_within signed (suc n) (b ∷ bs) = if nat_lt b 128 then Some (last_bits signed b, bs) else do
  high ← leb128_within signed n bs
  Some (sum (b - 128) (product high.0 128), high.1)

-- 64 bits take at most ten bytes
abbrev pub uleb128 : List ℕ → Option (ℕ × List ℕ)
uleb128 bytes = leb128_within false 10 bytes

abbrev pub sleb128 : List ℕ → Option (ℕ × List ℕ)
sleb128 bytes = leb128_within true 10 bytes

-- the bytes behind n numbers
unfoldable pub behind_uleb128s : ℕ → List ℕ → Option (List ℕ)
behind_uleb128s zero bytes = Some bytes
behind_uleb128s (suc n) bytes = do
  x ← uleb128 bytes
  behind_uleb128s n x.1

-- ---- texts

-- how many bytes stand before the first zero
abbrev pub text_length : List ℕ → ℕ
text_length [] = 0
text_length (b ∷ bs) = if b == 0 then 0 else suc (text_length bs)

-- the text that begins some bytes: up to a zero
abbrev pub text : List ℕ → List ℕ
text bytes = take (text_length bytes) bytes
