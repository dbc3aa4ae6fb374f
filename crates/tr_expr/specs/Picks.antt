-- What was read of a set.
use Rattle.std.specs.Prelude.{◌≡◌, ℕ, List, [], ◌∷◌, Bool, true, false, ◌||◌, ◌==◌, Option, None}
use Rattle.lx_abi.specs.Scripts.{among}
use Rattle.tr_expr.specs.Faults.{found}
use Rattle.tr_expr.specs.Items.{Reading, IsReadAs, IsSearch, item_of, picks, reading_causes}
use Rattle.tr_expr.specs.Sets.{AreRead, causes, some_picks}
use Rattle.tr_expr.specs.declared.fault.ExprFault.{ExprFault}
use Rattle.tr_expr.specs.declared.item.Picks.{Picks}
use Rattle.tr_expr.specs.declared.item.Picks.TheVariants.{Every, Nothing, Call, Calls, Refused}

-- the item picks call n
abbrev pub has : Picks → ℕ → Bool
has Every n = true
has Nothing n = false
has (Call number) n = number == n
has (Calls numbers) n = among numbers.items n
has (Refused e) n = false

abbrev pub causes_of : Picks → List ExprFault
causes_of Every = []
causes_of Nothing = []
causes_of (Call number) = []
causes_of (Calls numbers) = []
causes_of (Refused e) = e ∷ []

-- what was read of an item is what the reading says
pub record Shows (p : Picks) (r : Reading) : Type 0 where
  pub picks : (n : ℕ) → has p n ≡ picks r n
  pub causes : causes_of p ≡ reading_causes r

abbrev pub IsItem : List ℕ → Picks → Type 0
IsItem text p = (r : Reading) × (IsReadAs (item_of text) r × Shows p r)

abbrev pub IsSearched : List ℕ → Picks → Type 0
IsSearched text p = (r : Reading) × (IsSearch text r × Shows p r)

-- what read items pick
abbrev pub picked : Bool → List ℕ → ℕ → Bool
picked every numbers n = every || among numbers n

-- what one item adds to what was read before
pub record Adds (text : List ℕ) (fault fault' : Option ExprFault) (every every' : Bool) (numbers numbers' : List ℕ)
    : Type 0 where
  pub reading : Reading
  pub is_read : IsReadAs (item_of text) reading
  pub found : fault' ≡ found fault (reading_causes reading)
  pub picks : (n : ℕ) → picked every' numbers' n ≡ (picked every numbers n || picks reading n)

-- the fault that is found first in these items, and what they pick
pub record IsPicked (texts : List (List ℕ)) (fault : Option ExprFault) (every : Bool) (numbers : List ℕ) : Type 0 where
  pub readings : List Reading
  pub are_read : AreRead texts readings
  pub found : fault ≡ found None (causes readings)
  pub picks : (n : ℕ) → picked every numbers n ≡ some_picks readings n
