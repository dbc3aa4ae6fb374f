-- Flags and named numbers as strace(1) shows them: names in the order of their table, and the rest in hex.
use Rattle.std.specs.Prelude.{ℕ, ◌-◌, ◌%◌, ◌==◌, Bool, true, false, List, [], ◌∷◌, ◌++◌, codes, if◌then◌else◌}
use Rattle.std.specs.Fmt.{digits}
use Rattle.lx_abi.specs.Flags as tables
use Rattle.lx_abi.specs.Flags.{Named, has}
use Rattle.tr_values.specs.Sheets.{Sheet, Shown, put, ◌>>=◌}
use Rattle.tr_values.specs.Numbers.{hex_text}

abbrev pub bar : Bool → List ℕ
bar some = if some then codes "|" else []

-- what is left, in hex; 0 where nothing was shown
abbrev pub rest_text : Bool → ℕ → List ℕ
rest_text some word =
    if word == 0 then (if some then [] else codes "0") else bar some ++ (codes "0x" ++ digits 16 false word)

-- behind a name, if some was shown
unfoldable pub flags_text : Bool → ℕ → List Named → List ℕ
flags_text some word [] = rest_text some word
flags_text some word (flag ∷ more) =
    if has word flag then bar some ++ (flag.1 ++ flags_text true (word - flag.0) more) else flags_text some word more

abbrev pub flags : List Named → ℕ → Sheet → Shown
flags rows word s = put (flags_text false word rows) s

-- the same, with a name for none
abbrev pub flags_or : List ℕ → List Named → ℕ → Sheet → Shown
flags_or none rows word s = put (if word == 0 then none else flags_text false word rows) s

-- the name of a number, else hex
unfoldable pub name_of : List Named → ℕ → List ℕ
name_of [] number = hex_text number
name_of (row ∷ more) number = if row.0 == number then row.1 else name_of more number

abbrev pub named : List Named → ℕ → Sheet → Shown
named rows number s = put (name_of rows number) s

abbrev pub access_mode : ℕ → Sheet → Shown
access_mode number s = named tables.access_modes number s

-- open(2): an access mode, in the low two bits, and flags beside it
unfoldable pub open_flags : ℕ → Sheet → Shown
open_flags word s = do
  s ← access_mode (word % 4) s
  put (flags_text true (word - word % 4) tables.open_flags) s

unfoldable pub descriptor_flags : ℕ → Sheet → Shown
descriptor_flags word s = flags tables.descriptor_flags word s

unfoldable pub stat_flags : ℕ → Sheet → Shown
stat_flags word s = flags tables.stat_flags word s

unfoldable pub unlink_flags : ℕ → Sheet → Shown
unlink_flags word s = flags tables.unlink_flags word s

unfoldable pub protection : ℕ → Sheet → Shown
protection word s = flags_or (codes "PROT_NONE") tables.protections word s

unfoldable pub map_flags : ℕ → Sheet → Shown
map_flags word s = flags tables.map_flags word s

unfoldable pub wait_options : ℕ → Sheet → Shown
wait_options word s = flags tables.wait_options word s

unfoldable pub action_flags : ℕ → Sheet → Shown
action_flags word s = flags tables.action_flags word s

unfoldable pub whence : ℕ → Sheet → Shown
whence number s = named tables.whences number s

unfoldable pub mask_change : ℕ → Sheet → Shown
mask_change number s = named tables.mask_changes number s
