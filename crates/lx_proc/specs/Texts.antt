-- Words that a guest has in its memory: texts that end at a NUL, and lists of pointers to them that end
-- at a null pointer (execve(2)).
use Rattle.std.specs.Prelude.{ℕ, zero, suc, ◌+◌, ◌^◌, ◌%◌, ◌==◌, List, [], ◌∷◌, Option, Some, None, if◌then◌else◌, slice_index}
use Rattle.std.specs.Int.{w64, from_le_bytes}
use Rattle.std.specs.Option.{option_and_then, option_map}
use Rattle.rv_mem.specs.Memory.{Memory, first_fault, bytes_at}
use Rattle.rv_mem.specs.declared.rights.Access.TheVariants as access
use Rattle.rv_mem.specs.declared.fault.MemFault.{MemFault}

pub data Text : Type 0 where
  -- the bytes before the NUL
  Whole : List ℕ → Text
  -- no NUL among as many bytes as are looked at
  TooLong : Text
  -- no NUL before the first byte that can't be read
  Unreadable : Text

-- a byte before a text
abbrev pub after : ℕ → Text → Text
after b (Whole bytes) = Whole (b ∷ bytes)
after b TooLong = TooLong
after b Unreadable = Unreadable

-- addresses wrap at 64 bits
abbrev pub next_address : ℕ → ℕ → ℕ
next_address a n = (a + n) % 2 ^ 64

abbrev pub byte_at : Memory → ℕ → ℕ
byte_at m a = slice_index (bytes_at m a 1) 0

abbrev pub pointer_at : Memory → ℕ → ℕ
pointer_at m a = from_le_bytes w64 (bytes_at m a 8)

abbrev pub text_on : Option MemFault → ℕ → Text → Text
text_on (Some f) b rest = Unreadable
text_on None b rest = if b == 0 then Whole [] else after b rest

-- the text at an address, of at most n bytes with its NUL
unfoldable pub text_at : Memory → ℕ → ℕ → Text
text_at m zero a = TooLong
text_at m (suc n) a = text_on (first_fault access.Read m a 1) (byte_at m a) (text_at m n (next_address a 1))

-- as many bytes as an address space has, which no text passes
abbrev pub any_length : ℕ
any_length = 2 ^ 38

abbrev pub whole : Text → Option (List ℕ)
whole (Whole bytes) = Some bytes
whole TooLong = None
whole Unreadable = None

abbrev pub with_first : Option (List ℕ) → Option (List (List ℕ)) → Option (List (List ℕ))
with_first first rest = option_and_then (λ w. option_map (λ ws. w ∷ ws) rest) first

abbrev pub texts_on : Option MemFault → ℕ → Option (List ℕ) → Option (List (List ℕ)) → Option (List (List ℕ))
texts_on (Some f) pointer first rest = None
texts_on None pointer first rest = if pointer == 0 then Some [] else with_first first rest

-- the texts at the pointers from an address on, of which there are fewer than n; None where a pointer
-- or a text can't be read
unfoldable pub texts_at : Memory → ℕ → ℕ → Option (List (List ℕ))
texts_at m zero a = None
texts_at m (suc n) a =
    texts_on (first_fault access.Read m a 8) (pointer_at m a) (whole (text_at m any_length (pointer_at m a)))
    (texts_at m n (next_address a 8))

-- a list of texts; none at address 0
abbrev pub list_at : Memory → ℕ → Option (List (List ℕ))
list_at m a = if a == 0 then Some [] else texts_at m any_length a
