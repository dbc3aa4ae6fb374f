-- The words of a schedule, as a text has them.
use Rattle.std.specs.Prelude.{◌≡◌, ℕ, ◌+◌, ◌-◌, ◌*◌, ◌==◌, ◌&&◌, nat_lt, nat_le, if◌then◌else◌, List, [], ◌∷◌, ◌++◌, length, take, drop, slice_index, Option, Some, None, option_map}
use Rattle.std.specs.Char.{is_whitespace, is_ascii_digit}
use Rattle.std.specs.Str.{chars}
use Rattle.lx_abi.specs.declared.schedule.Word.{Word}
use Rattle.lx_abi.specs.declared.schedule.Word.TheVariants.{Turn, TurnAlone, Serve, UntilReturn}
use Rattle.lx_abi.specs.declared.words.ScheduleFault.{ScheduleFault}
use Rattle.lx_abi.specs.declared.words.ScheduleFault.TheVariants.{BadWord, Memory}

-- the number of a fault
abbrev pub fault_number : ScheduleFault → ℕ
fault_number BadWord = 1
fault_number Memory = 2

-- what more digits make of the number before them; none where one is no digit
abbrev pub spelled : ℕ → List ℕ → Option ℕ
spelled n [] = Some n
spelled n (c ∷ cs) = if is_ascii_digit c then spelled (n * 10 + (c - 48)) cs else None

abbrev pub at_most : ℕ → Option ℕ → Option ℕ
at_most most None = None
at_most most (Some n) = if nat_le n most then Some n else None

-- a process: 1 to 10 digits, 4294967295 at most
abbrev pub process : List ℕ → Option ℕ
process ds = if nat_lt 0 (length ds) && nat_le (length ds) 10 then at_most 4294967295 (spelled 0 ds) else None

-- `s`, `-p`, `p.` or `p`
abbrev pub word_of : List ℕ → Option Word
word_of cs =
    if length cs == 1 && slice_index cs 0 == 115 then Some Serve
    else if slice_index cs 0 == 45 then option_map TurnAlone (process (drop 1 cs))
    else if slice_index cs (length cs - 1) == 46 then option_map UntilReturn (process (take (length cs - 1) cs))
    else option_map Turn (process cs)

-- a piece ends, and pieces follow; an empty one is none
abbrev pub ended : List ℕ → List (List ℕ) → List (List ℕ)
ended piece others = if length piece == 0 then others else piece ∷ others

-- the pieces between white space, of the characters so far of the first one and of those that follow
abbrev pub pieces : List ℕ → List ℕ → List (List ℕ)
pieces piece [] = ended piece []
pieces piece (c ∷ cs) = if is_whitespace c then ended piece (pieces [] cs) else pieces (piece ++ c ∷ []) cs

abbrev pub after_word : Option Word → Option (List Word) → Option (List Word)
after_word None others = None
after_word (Some w) others = option_map (λ ws. w ∷ ws) others

-- each piece as a word; none where one isn't a word
abbrev pub each_word : List (List ℕ) → Option (List Word)
each_word [] = Some []
each_word (piece ∷ others) = after_word (word_of piece) (each_word others)

-- the words of a text
unfoldable pub words_of : List ℕ → Option (List Word)
words_of text = each_word (pieces [] (chars text))

-- a text is refused as malformed only where it has no words
abbrev pub IsRefusal : ScheduleFault → Option (List Word) → Type 0
IsRefusal BadWord words = words ≡ None
IsRefusal Memory words = Unit {0}

-- Reading a text from its front: the words so far, the characters so far of a piece, and the characters that follow

abbrev pub before : List Word → Option (List Word) → Option (List Word)
before ws None = None
before ws (Some more) = Some (ws ++ more)

-- what the text gives
unfoldable pub read_on : List Word → List ℕ → List ℕ → Option (List Word)
read_on ws piece cs = before ws (each_word (pieces piece cs))

-- a piece that ends is one of the words now, whatever pieces follow
abbrev pub PieceRead : List Word → List ℕ → List Word → Type 0
PieceRead ws piece new =
    (others : List (List ℕ)) → before ws (each_word (ended piece others)) ≡ before new (each_word others)

abbrev pub PieceRefused : ScheduleFault → List ℕ → Type 0
PieceRefused fault piece = (others : List (List ℕ)) → IsRefusal fault (each_word (ended piece others))

-- a character is one of the words or of the piece now, whatever characters follow
abbrev pub CharRead : List Word → List ℕ → ℕ → List Word → List ℕ → Type 0
CharRead ws piece c new rest = (cs : List ℕ) → read_on ws piece (c ∷ cs) ≡ read_on new rest cs

abbrev pub CharRefused : ScheduleFault → List Word → List ℕ → ℕ → Type 0
CharRefused fault ws piece c = (cs : List ℕ) → IsRefusal fault (read_on ws piece (c ∷ cs))
