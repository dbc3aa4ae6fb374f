-- One item of a set (strace(1), Filtering), and what it is read as.
use Rattle.std.specs.Prelude.{◌≡◌, ℕ, ◌==◌, ◌&&◌, List, [], ◌∷◌, Option, Some, None, Bool, true, false}
use Rattle.std.specs.Prelude.{if◌then◌else◌, is_some, codes}
use Rattle.std.specs.Str.{bytes_eq}
use Rattle.std.specs.List.{list_any}
use Rattle.lx_abi.specs.Calls.{Row, calls, call_number, class_named}
use Rattle.lx_abi.specs.declared.calls.Class as abi
use Rattle.regex.specs.Failures.{IsRightKind}
use Rattle.regex.specs.Patterns.{Re, default_config, find_str}
use Rattle.regex.specs.Sources as sources
use Rattle.regex.specs.Strings.{regex_source, regex_config, regex_pattern, IsReadFromSource}
use Rattle.regex.specs.declared.error.Error.{Error}
use Rattle.regex.specs.declared.error.Error.TheVariants.{Syntax, CompiledTooBig, Internal, OutOfMemory}
use Rattle.regex.specs.declared.string.regex.Regex.{Regex}
use Rattle.tr_expr.specs.declared.fault.ExprFault.{ExprFault}
use Rattle.tr_expr.specs.declared.fault.ExprFault.TheVariants.{UnknownCall, UnknownClass, BadPattern}

-- all, none, ?name, %class, /pattern or name
pub data Item : Type 0 where
  Every : Item
  Nothing : Item
  Perhaps : List ℕ → Item
  Class : List ℕ → Item
  Pattern : List ℕ → Item
  Name : List ℕ → Item

abbrev pub marked : List ℕ → Item
marked [] = Name []
marked (b ∷ bs) =
    if b == 63 then Perhaps bs
    else (if b == 37 then Class bs else (if b == 47 then Pattern bs else Name (b ∷ bs)))

abbrev pub item_of : List ℕ → Item
item_of text =
    if bytes_eq text (codes "all") then Every
    else (if bytes_eq text (codes "none") then Nothing else marked text)

-- every call, none, one, those of a class, those in whose names a pattern is found, or a cause of refusal
pub data Reading : Type 0 where
  AllCalls : Reading
  NoCall : Reading
  OneCall : ℕ → Reading
  ClassCalls : abi.Class → Reading
  FoundCalls : Re → Reading
  Refused : ExprFault → Reading

abbrev pub named : Option ℕ → Reading
named None = Refused UnknownCall
named (Some number) = OneCall number

abbrev pub perhaps_named : Option ℕ → Reading
perhaps_named None = NoCall
perhaps_named (Some number) = OneCall number

abbrev pub classed : Option abi.Class → Reading
classed None = Refused UnknownClass
classed (Some class) = ClassCalls class

-- what the crate regex reads in the text
abbrev pub IsCompiled : List ℕ → Re → Type 0
IsCompiled text re =
    (r : Regex)
    × ((regex_source r ≡ text) × ((regex_config r ≡ default_config) × (IsReadFromSource r × (regex_pattern r ≡ re))))

abbrev pub is_out_of_memory : Error → Bool
is_out_of_memory (Syntax e) = false
is_out_of_memory CompiledTooBig = false
is_out_of_memory Internal = false
is_out_of_memory OutOfMemory = true

-- the crate regex refuses the text, and not for want of memory
abbrev pub IsNoPattern : List ℕ → Type 0
IsNoPattern text =
    (e : Error)
    × ((is_out_of_memory e ≡ false) × (sources.IsRefusal default_config text e × IsRightKind default_config text e))

abbrev pub IsSearch : List ℕ → Reading → Type 0
IsSearch text AllCalls = ⊥
IsSearch text NoCall = ⊥
IsSearch text (OneCall number) = ⊥
IsSearch text (ClassCalls class) = ⊥
IsSearch text (FoundCalls re) = IsCompiled text re
IsSearch text (Refused e) = (e ≡ BadPattern) × IsNoPattern text

-- what an item is read as
abbrev pub IsReadAs : Item → Reading → Type 0
IsReadAs Every r = r ≡ AllCalls
IsReadAs Nothing r = r ≡ NoCall
IsReadAs (Perhaps name) r = r ≡ perhaps_named (call_number name)
IsReadAs (Class name) r = r ≡ classed (class_named name)
IsReadAs (Pattern text) r = IsSearch text r
IsReadAs (Name name) r = r ≡ named (call_number name)

-- the number of a class among classes
abbrev pub class_rank : abi.Class → ℕ
class_rank abi.TheVariants.File = 0
class_rank abi.TheVariants.Descriptor = 1
class_rank abi.TheVariants.Process = 2
class_rank abi.TheVariants.Signal = 3
class_rank abi.TheVariants.Memory = 4

abbrev pub is_among : abi.Class → List abi.Class → Bool
is_among class classes = list_any (λ c. class_rank c == class_rank class) classes

-- the pattern is found in the name
abbrev pub is_found : Re → List ℕ → Bool
is_found re name = is_some (find_str re name 0)

-- call n stands in the rows, and passes the test
abbrev pub some_row : (Row → Bool) → List Row → ℕ → Bool
some_row test rows n = list_any (λ row. (row.0 == n) && test row) rows

-- the reading picks call n
abbrev pub picks : Reading → ℕ → Bool
picks AllCalls n = true
picks NoCall n = false
picks (OneCall number) n = number == n
picks (ClassCalls class) n = some_row (λ row. is_among class row.2) calls n
picks (FoundCalls re) n = some_row (λ row. is_found re row.1) calls n
picks (Refused e) n = false

-- the kinds of refusal that it is a cause of
abbrev pub reading_causes : Reading → List ExprFault
reading_causes AllCalls = []
reading_causes NoCall = []
reading_causes (OneCall number) = []
reading_causes (ClassCalls class) = []
reading_causes (FoundCalls re) = []
reading_causes (Refused e) = e ∷ []
