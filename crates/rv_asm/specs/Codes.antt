-- The bytes of a statement: how many, and which.
use Rattle.std.specs.Prelude.{◌≡◌, ℕ, ◌+◌, ◌-◌, ◌*◌, ◌/◌, ◌%◌, ◌^◌, Bool, true, false, ◌||◌, ◌&&◌, not, List, [], ◌∷◌, ◌++◌, length, replicate, Option, Some, None, option_map, Result, Ok, Err, nat_lt, nat_le, min, ◌==◌, if◌then◌else◌, ℤ, pos, negsuc, neg_ℤ, ◌-ℤ◌}
use Rattle.std.specs.Int.{to_le_bytes, w32, w64}
use Rattle.std.specs.Option.{option_map_or}
use Rattle.std.specs.List.{list_all}
use Rattle.rv_isa.specs.declared.inst.Inst.{Inst}
use Rattle.rv_isa.specs.declared.inst.Inst.TheVariants as inst
use Rattle.rv_isa.specs.declared.register.Register.{Register}
use Rattle.rv_isa.specs.declared.operations.ImmediateOperation.TheVariants as immediate
use Rattle.rv_isa.specs.Fields.{field}
use Rattle.rv_isa.specs.Spelling.{word, Spells}
use Rattle.rv_asm.specs.declared.code.Expansion.{Expansion}
use Rattle.rv_asm.specs.declared.code.Expansion.TheVariants.{Nothing, One, Two}
use Rattle.rv_asm.specs.declared.fault.AsmKind.{AsmKind}
use Rattle.rv_asm.specs.declared.fault.AsmKind.TheVariants.{Mnemonic, Operand, Range, Label, Duplicate, TooLarge, Memory}
use Rattle.rv_syntax.specs.declared.forms.Width.{Width}
use Rattle.rv_syntax.specs.declared.forms.Width.TheVariants as width
use Rattle.rv_syntax.specs.declared.numbers.Number.{Number}
use Rattle.rv_asm.specs.declared.symbol.Symbol.{Symbol}
use Rattle.rv_syntax.specs.Numbers.{is_within, low_bits, narrow}
use Rattle.rv_syntax.specs.Numbered.{numbered}
use Rattle.rv_syntax.specs.Statements.{Said, Does, Sets, Branches, Jumps, Points, Numbers, Text, Space, Align}
use Rattle.rv_syntax.specs.Text.{is_text}

infixl 10 ◌>>=◌
abbrev pub ◌>>=◌ : {A B E : Type 0} → Result A E → (A → Result B E) → Result B E
(Ok x) >>= f = f x
(Err e) >>= f = Err e

-- ---- sizes

abbrev pub bytes_in : Width → ℕ
bytes_in width.Byte = 1
bytes_in width.Word = 4
bytes_in width.Double = 8

-- one instruction sets such a number
abbrev pub is_small : Number → Bool
is_small n = is_within 2048 n

-- from an address up to the next multiple of n
abbrev pub padding : ℕ → ℕ → ℕ
padding n at = (n - at % n) % n

-- the bytes that a statement fills at an address
unfoldable pub size_of : ℕ → Said → ℕ
size_of at (Does i) = 4
size_of at (Sets rd n) = if is_small n then 4 else 8
size_of at (Branches condition rs1 rs2 label) = 4
size_of at (Jumps rd label) = 4
size_of at (Points rd label) = 8
size_of at (Numbers width ns) = bytes_in width * length ns
size_of at (Text bytes) = length bytes
size_of at (Space n) = n.magnitude
size_of at (Align n) = padding n.magnitude at

-- ---- labels

-- a label, its address, and the line that it stands on
pub record Location : Type 0 where
  pub name : List ℕ
  pub address : ℕ
  pub line : ℕ

abbrev pub place_of : Symbol → Location
place_of s = record { name = s.name.now; address = s.address; line = s.line }

-- the first label of a name
abbrev pub place_named : List Location → List ℕ → Option Location
place_named [] w = None
place_named (p ∷ ps) w = if is_text p.name w then Some p else place_named ps w

abbrev pub address_of : List Location → List ℕ → Option ℕ
address_of ps w = option_map (λ p. p.address) (place_named ps w)

abbrev pub to_label : {A : Type 0} → List Location → List ℕ → (ℕ → Result A AsmKind) → Result A AsmKind
to_label ps label make = option_map_or make (address_of ps label) (Err Label)

-- from one address to another; no instruction reaches as far as the ends
abbrev pub distance : ℕ → ℕ → ℤ
distance at target =
    if nat_le at target then pos (min (target - at) 0x7fffffff) else neg_ℤ (pos (min (at - target) 0x7fffffff))

-- ---- instructions

-- LUI's part of a number of 32 bits, and what ADDI or ADDIW adds to it, from -2048 to 2047
abbrev pub upper_part : ℕ → ℕ
upper_part n = (n + 2048) / 4096 % 2 ^ 20

abbrev pub lower_part : ℕ → ℤ
lower_part n = pos ((n + 2048) % 4096) -ℤ pos 2048

abbrev pub add : Register → Register → ℤ → Inst
add rd rs1 n = inst.Immediate immediate.Add rd rs1 n

-- a number of 32 bits with its sign, in two instructions
abbrev pub in_two : Register → ℕ → Expansion Inst
in_two rd n = Two (inst.Lui rd (upper_part n)) (inst.AddImmediateWord rd rd (lower_part n))

abbrev pub setting : Register → Number → Result (Expansion Inst) AsmKind
setting rd n =
    if is_small n then Ok (One (add rd (numbered 0) (narrow n))) else
    (if is_within (2 ^ 31) n then Ok (in_two rd (low_bits n % 2 ^ 32)) else Err Range)

-- an address is below 2 ^ 31 - 2 ^ 11, so that LUI's part keeps its sign
abbrev pub pointing : Register → ℕ → Result (Expansion Inst) AsmKind
pointing rd target =
    if nat_lt target 0x7ffff800
    then Ok (Two (inst.Lui rd (upper_part target)) (add rd rd (lower_part target)))
    else Err Range

-- a number of a width is from half its negative range to the end of its positive one
abbrev pub fits : Width → Number → Bool
fits w n = is_within (2 ^ (8 * bytes_in w - 1)) n || (not n.negative && nat_lt n.magnitude (2 ^ (8 * bytes_in w)))

abbrev pub if_so : Bool → Result (Expansion Inst) AsmKind
if_so true = Ok Nothing
if_so false = Err Range

-- the instructions of a statement at an address
unfoldable pub instructions_of : List Location → ℕ → Said → Result (Expansion Inst) AsmKind
instructions_of ps at (Does i) = Ok (One i)
instructions_of ps at (Sets rd n) = setting rd n
instructions_of ps at (Branches condition rs1 rs2 label) =
    to_label ps label (λ target. Ok (One (inst.Branch condition rs1 rs2 (distance at target))))
instructions_of ps at (Jumps rd label) = to_label ps label (λ target. Ok (One (inst.Jal rd (distance at target))))
instructions_of ps at (Points rd label) = to_label ps label (pointing rd)
instructions_of ps at (Numbers width ns) = if_so (list_all (fits width) ns)
instructions_of ps at (Text bytes) = Ok Nothing
instructions_of ps at (Space n) = if_so (not n.negative)
instructions_of ps at (Align n) = if_so (not n.negative && nat_lt 0 n.magnitude)

-- ---- words

abbrev pub is_signed : ℕ → ℤ → Bool
is_signed k (pos n) = nat_lt n (2 ^ k)
is_signed k (negsuc n) = nat_lt n (2 ^ k)

-- the word has room for each number of the instruction
abbrev pub has_word : Inst → Bool
has_word (inst.Lui rd upper) = nat_lt upper (2 ^ 20)
has_word (inst.Auipc rd upper) = nat_lt upper (2 ^ 20)
has_word (inst.Jal rd offset) = is_signed 20 offset && (field 20 offset % 2 == 0)
has_word (inst.Jalr rd rs1 offset) = is_signed 11 offset
has_word (inst.Branch condition rs1 rs2 offset) = is_signed 12 offset && (field 12 offset % 2 == 0)
has_word (inst.Load kind rd rs1 offset) = is_signed 11 offset
has_word (inst.Store kind rs1 rs2 offset) = is_signed 11 offset
has_word (inst.Immediate operation rd rs1 n) = is_signed 11 n
has_word (inst.ShiftImmediate shift rd rs1 amount) = nat_lt amount 64
has_word (inst.AddImmediateWord rd rs1 n) = is_signed 11 n
has_word (inst.ShiftImmediateWord shift rd rs1 amount) = nat_lt amount 32
has_word (inst.Operation operation rd rs1 rs2) = true
has_word (inst.WordOperation operation rd rs1 rs2) = true
has_word (inst.Fence rd rs1 ordering) = nat_lt ordering (2 ^ 12)
has_word inst.EnvironmentCall = true
has_word inst.EnvironmentBreak = true

abbrev pub encoded : Inst → Result ℕ AsmKind
encoded i = if has_word i then Ok (word i) else Err Range

abbrev pub words_of : Expansion Inst → Result (Expansion ℕ) AsmKind
words_of Nothing = Ok Nothing
words_of (One i) = encoded i >>= λ a. Ok (One a)
words_of (Two i j) = encoded i >>= λ a. encoded j >>= λ b. Ok (Two a b)

-- ---- where labels are placed

abbrev pub is_range_kind : AsmKind → Bool
is_range_kind Range = true
is_range_kind Mnemonic = false
is_range_kind Operand = false
is_range_kind Label = false
is_range_kind Duplicate = false
is_range_kind TooLarge = false
is_range_kind Memory = false

abbrev pub is_range : {A : Type 0} → Result A AsmKind → Bool
is_range (Ok x) = false
is_range (Err k) = is_range_kind k

-- the numbers of a statement do not fit, wherever labels stand
unfoldable pub is_out_of_range : ℕ → Said → Bool
is_out_of_range at s = is_range (instructions_of [] at s >>= words_of)

-- a statement that does not fit has no bytes; whether a label is in reach is not known yet
unfoldable pub placed_size : ℕ → Said → ℕ
placed_size at s = if is_out_of_range at s || nat_lt 0x20000 (at + size_of at s) then 0 else size_of at s

-- each word spells its instruction
abbrev pub AllSpelled : Expansion Inst → Expansion ℕ → Type 0
AllSpelled Nothing ws = ws ≡ Nothing
AllSpelled (One i) ws = (a : ℕ) × (ws ≡ One a) × Spells i a
AllSpelled (Two i j) ws = (a : ℕ) × (b : ℕ) × (ws ≡ Two a b) × Spells i a × Spells j b

-- ---- bytes

abbrev pub number_bytes : Width → Number → List ℕ
number_bytes width.Byte n = low_bits n % 256 ∷ []
number_bytes width.Word n = to_le_bytes w32 (low_bits n % 2 ^ 32)
number_bytes width.Double n = to_le_bytes w64 (low_bits n)

abbrev pub numbers_bytes : Width → List Number → List ℕ
numbers_bytes w [] = []
numbers_bytes w (n ∷ ns) = number_bytes w n ++ numbers_bytes w ns

abbrev pub words_bytes : Expansion ℕ → List ℕ
words_bytes Nothing = []
words_bytes (One a) = to_le_bytes w32 a
words_bytes (Two a b) = to_le_bytes w32 a ++ to_le_bytes w32 b

-- the bytes of a statement at an address, whose words are known
unfoldable pub bytes_of : ℕ → Said → Expansion ℕ → List ℕ
bytes_of at (Does i) ws = words_bytes ws
bytes_of at (Sets rd n) ws = words_bytes ws
bytes_of at (Branches condition rs1 rs2 label) ws = words_bytes ws
bytes_of at (Jumps rd label) ws = words_bytes ws
bytes_of at (Points rd label) ws = words_bytes ws
bytes_of at (Numbers width ns) ws = numbers_bytes width ns
bytes_of at (Text bytes) ws = bytes
bytes_of at (Space n) ws = replicate n.magnitude 0
bytes_of at (Align n) ws = replicate (padding n.magnitude at) 0
