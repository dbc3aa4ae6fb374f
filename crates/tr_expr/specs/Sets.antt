-- Sets of calls (strace(1), Filtering): items joined by commas, behind a ! that negates the whole.
use Rattle.std.specs.Prelude.{ℕ, List, [], ◌∷◌, ◌≡◌, ◌⊎◌, Option, Some, None, Bool, not, if◌then◌else◌, ◌==◌, is_some}
use Rattle.std.specs.List.{list_any, slice_split, flat_map}
use Rattle.lx_abi.specs.Scripts.{includes}
use Rattle.lx_abi.specs.declared.script.Set.{Set}
use Rattle.tr_expr.specs.Items.{Reading, IsReadAs, item_of, picks, reading_causes}
use Rattle.tr_expr.specs.Texts.{after}
use Rattle.tr_expr.specs.Faults.{IsFirst}
use Rattle.tr_expr.specs.declared.fault.ExprFault.{ExprFault}
use Rattle.tr_expr.specs.declared.fault.ExprFault.TheVariants.{Memory}

abbrev pub without_mark : List ℕ → Option (List ℕ) → List ℕ
without_mark text None = text
without_mark text (Some list) = list

abbrev pub pieces : ℕ → List ℕ → List (List ℕ)
pieces mark text = slice_split (λ b. b == mark) text

abbrev pub items : List ℕ → List (List ℕ)
items text = pieces 44 (without_mark text (after 33 text))

-- what the items are read as, one by one
abbrev pub AreRead : List (List ℕ) → List Reading → Type 0
AreRead [] [] = Unit {0}
AreRead [] (r ∷ rs) = ⊥
AreRead (text ∷ texts) [] = ⊥
AreRead (text ∷ texts) (r ∷ rs) = IsReadAs (item_of text) r × AreRead texts rs

-- the kinds of refusal that a set is a cause of
abbrev pub causes : List Reading → List ExprFault
causes rs = flat_map reading_causes rs

abbrev pub some_picks : List Reading → ℕ → Bool
some_picks rs n = list_any (λ r. picks r n) rs

abbrev pub turned : Bool → Bool → Bool
turned negated b = if negated then not b else b

-- the set whose items are read so names call n
abbrev pub names : List ℕ → List Reading → ℕ → Bool
names text rs n = turned (is_some (after 33 text)) (some_picks rs n)

-- the text has no cause of refusal, and the set is what it names
pub record SaysSet (text : List ℕ) (set : Set) : Type 0 where
  pub readings : List Reading
  pub are_read : AreRead (items text) readings
  pub sound : causes readings ≡ []
  pub calls : (n : ℕ) → includes set n ≡ names text readings n

-- want of memory, or the cause in the text that is found first
unfoldable pub RefusesSet : List ℕ → ExprFault → Type 0
RefusesSet text e = (e ≡ Memory) ⊎ ((rs : List Reading) × (AreRead (items text) rs × IsFirst (causes rs) e))
