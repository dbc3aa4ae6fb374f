-- What neighbours tell of files, in an order of their paths in which a path stands before those under it.
use Rattle.std.specs.Prelude.{◌≡◌, ℕ, ◌+◌, Bool, true, false, not, ◌==◌, nat_le, nat_lt, if◌then◌else◌, List, [], ◌∷◌, length, take, Option, Some, None, IfSome}
use Rattle.std.specs.List.{list_any, AllByRecursion}
use Rattle.std.specs.Str.{bytes_eq}
use Rattle.lx_abi.specs.declared.boot.GuestFile.{GuestFile}
use Rattle.lx_boot.specs.Boots.{has_duplicate}
use Rattle.lx_abi.specs.Limits.{most_nodes}
use Rattle.lx_boot.specs.Limits.{new_directories, nodes}
use Rattle.lx_boot.specs.Paths.{is_under}
use Rattle.lx_boot.specs.declared.neighbours.Told.{Told}

-- a slash comes before every other byte
abbrev pub rank : ℕ → ℕ
rank b = if b == 47 then 0 else b + 1

-- the path comes before the other by its bytes' ranks, and the other isn't under it; one path twice is in order
-- where `twice`
unfoldable pub precedes : Bool → List ℕ → List ℕ → Bool
precedes twice [] [] = twice
precedes twice [] (b ∷ other) = not (b == 47)
precedes twice (a ∷ path) [] = false
precedes twice (a ∷ path) (b ∷ other) = if a == b then precedes twice path other else nat_lt (rank a) (rank b)

-- each file's path comes before those of all files behind it
unfoldable pub AreOrdered : Bool → List GuestFile → Type 0
AreOrdered twice [] = Unit
AreOrdered twice (f ∷ files) = AllByRecursion (λ g. precedes twice f.path g.path ≡ true) files × AreOrdered twice files

-- how many nodes the first file makes: itself, and the directories above it in which the next doesn't lie
unfoldable pub first_nodes : List GuestFile → ℕ
first_nodes [] = 0
first_nodes (f ∷ files) = 1 + new_directories (take 1 files) f.path (length f.path)

-- a file lies under the one before it, unless two neighbours are out of order: then nothing is told
unfoldable pub under_next : GuestFile → List GuestFile → Option Bool
under_next f [] = Some false
under_next f (g ∷ files) =
    if is_under g.path f.path then Some true
    else if precedes true f.path g.path then under_next g files
    else None

-- a file has the path of the one before it, unless two neighbours are out of order
unfoldable pub twice_next : GuestFile → List GuestFile → Option Bool
twice_next f [] = Some false
twice_next f (g ∷ files) =
    if bytes_eq f.path g.path then Some true
    else if precedes false f.path g.path then twice_next g files
    else None

-- one of the files lies under another
abbrev pub has_under : List GuestFile → Bool
has_under files = list_any (λ f. list_any (λ g. is_under f.path g.path) files) files

-- what is told of files is so
pub record IsTold (files : List GuestFile) (told : Told) : Type 0 where
  pub under : IfSome told.under (λ b. b ≡ has_under files)
  pub twice : IfSome told.twice (λ b. b ≡ has_duplicate files)
  pub few : IfSome told.few (λ b. b ≡ nat_le (nodes files) most_nodes)
