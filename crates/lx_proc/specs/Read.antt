-- What the code reads of a guest's memory, in the definitions' terms.
use Rattle.std.specs.Prelude.{◌≡◌, ℕ, ◌<◌, ◌≤◌, Bool, true, false, not, is_some, List, length, Option, Some, None}
use Rattle.std.specs.List.{sum_by}
use Rattle.lx_abi.specs.Limits.{start_limit}
use Rattle.lx_proc.specs.Starts.{cost_of}
use Rattle.rv_mem.specs.Memory.{Memory}
use Rattle.lx_proc.specs.Texts.{Text, Whole, TooLong, Unreadable, text_at, any_length, whole}
use Rattle.lx_proc.specs.declared.texts.Text.TheVariants as answer
use Rattle.lx_proc.specs.declared.texts.Text.{Text as Answer}
use Rattle.lx_proc.specs.declared.texts.Words.TheVariants as words
use Rattle.lx_proc.specs.declared.texts.Words.{Words}

abbrev pub text_of : Answer → Text
text_of (answer.Whole bytes) = Whole bytes
text_of answer.TooLong = TooLong
text_of answer.Unreadable = Unreadable

-- the text, where it can be read and has fewer bytes than the room
abbrev pub ReadsWithin : Option (List ℕ) → ℕ → Option (List ℕ) → Type 0
ReadsWithin (Some bytes) room text = text ≡ Some bytes
ReadsWithin None room text = (bytes : List ℕ) → text ≡ Some bytes → room ≤ length bytes

-- a list, whole or too large for a program's start
abbrev pub Reads : Words → Option (List (List ℕ)) → Type 0
Reads (words.Whole texts) list = list ≡ Some texts.items
Reads words.TooLarge list = (texts : List (List ℕ)) × (list ≡ Some texts) × (start_limit < sum_by cost_of texts)
Reads words.Unreadable list = list ≡ None

abbrev pub is_unreadable : Words → Bool
is_unreadable (words.Whole texts) = false
is_unreadable words.TooLarge = false
is_unreadable words.Unreadable = true

abbrev pub too_large_if : Bool → Words
too_large_if true = words.TooLarge
too_large_if false = words.Unreadable

-- the text at an address can be read
abbrev pub is_text : Memory → ℕ → Bool
is_text m a = is_some (whole (text_at m any_length a))

abbrev pub is_no_text : Memory → ℕ → Bool
is_no_text m a = not (is_text m a)

-- so can the texts at all addresses from one to another
abbrev pub AreTexts : Memory → ℕ → ℕ → Type 0
AreTexts m from to = (a : ℕ) → from ≤ a → a ≤ to → is_text m a ≡ true
