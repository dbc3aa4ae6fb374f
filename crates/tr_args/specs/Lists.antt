-- Lists of strings in the memory of a process, as strace(1) shows them (the argv of execve(2)).
use Rattle.std.specs.Prelude.{ℕ, ◌+◌, ◌-◌, ◌/◌, ◌%◌, ◌^◌, ◌==◌, ◌||◌, nat_lt, nat_le, min, Bool, true, false}
use Rattle.std.specs.Prelude.{List, [], ◌∷◌, ◌++◌, length, take, codes, if◌then◌else◌}
use Rattle.std.specs.Int.{w64, from_le_bytes}
use Rattle.std.specs.List.{position_or_len}
use Rattle.std.specs.Simd.{first_chunks}
use Rattle.tr_values.specs.Sheets.{Sheet, Shown, put, reads, ◌>>=◌}
use Rattle.tr_values.specs.Numbers.{pointer}
use Rattle.tr_values.specs.Escapes.{nul_at, quoted, cut}
use Rattle.tr_values.specs.Structs.{unless_null}

-- the doublewords, each as its bytes
abbrev pub words : List ℕ → List (List ℕ)
words bs = first_chunks 8 (length bs / 8) bs

abbrev pub word : List ℕ → ℕ
word bytes = from_le_bytes w64 bytes

-- how many stand before the first that is null
abbrev pub null_at : List (List ℕ) → ℕ
null_at ws = position_or_len (λ w. word w == 0) ws

abbrev pub comma : Bool → List ℕ
comma some = if some then codes ", " else []

-- an item of which one byte more than is shown was read
unfoldable pub item_read : ℕ → ℕ → List ℕ → Sheet → Shown
item_read most address bs s =
    if nat_lt (nul_at bs) (length bs) then quoted (take (nul_at bs) bs) s
    else (if nat_lt most (length bs) then cut (take most bs) s else pointer address s)

-- of an item of which more than 4,096 bytes are wanted, and which the first read didn't end
unfoldable pub item_more : ℕ → ℕ → List ℕ → Sheet → Shown
item_more most address bs s =
    if length bs == 4096
    then reads ((address + 4096) % 2 ^ 64) (most - 4095) (λ more. item_read most address (bs ++ more)) s
    else item_read most address bs s

-- a read has at most 4,096 bytes
unfoldable pub item : ℕ → ℕ → Sheet → Shown
item most address s =
    if nat_lt most 4096 then reads address (most + 1) (item_read most address) s
    else reads address 4096 (item_more most address) s

unfoldable pub items : ℕ → Bool → List (List ℕ) → Sheet → Shown
items most some [] s = put [] s
items most some (w ∷ ws) s = do
  s ← put (comma some) s
  s ← item most (word w) s
  items most true ws s

abbrev pub most_items : ℕ
most_items = 32

-- a list ends with a null pointer; one pointer more is read than items are shown
unfoldable pub list_read : ℕ → ℕ → List ℕ → Sheet → Shown
list_read most address bs s =
    if nat_lt (null_at (words bs)) (length (words bs)) || nat_le 264 (length bs) then (do
      s ← put (codes "[") s
      s ← items most false (take (min (null_at (words bs)) most_items) (words bs)) s
      put (if nat_lt most_items (null_at (words bs)) then codes ", ...]" else codes "]") s)
    else pointer address s

unfoldable pub list : ℕ → ℕ → Sheet → Shown
list most address s = unless_null address (reads address 264 (list_read most address)) s
