-- Folders: numbers at which names begin that lead on to others. A path is the names that lead to one from the top.
use Rattle.std.specs.Prelude.{◌≡◌, ℕ, zero, suc, ◌+◌, ◌==◌, ◌||◌, ◌&&◌, if◌then◌else◌, Bool, true, false}
use Rattle.std.specs.Prelude.{List, [], ◌∷◌, ◌++◌, map}
use Rattle.std.specs.Prelude.{Option, Some, None, IsSome, is_some, position}
use Rattle.std.specs.Option.{option_and_then}
use Rattle.std.specs.List.{slice_split}
use Rattle.std.specs.Ordering.{nat_cmp, eq_by_cmp}
use Rattle.std.specs.FinMap as maps
use Rattle.std.specs.FinMap.{FinMap}
use Rattle.containers.specs.Vacant.{IsFullBelow}
use Rattle.lx_files.specs.Paths.{Path, path_cmp, slash, has_slash}
use Rattle.lx_files.specs.Kinds.{NameMap}
use Rattle.lx_files.specs.declared.folder.Standing.{Standing}

-- the folder at which paths begin, which has no number of its own among the others
abbrev pub top : ℕ
top = 4294967295

-- the folder that each name leads to, by the folder that it is in
abbrev pub Children : Type 0
Children = FinMap nat_cmp NameMap

abbrev pub Standings : Type 0
Standings = FinMap nat_cmp Standing

abbrev pub Numbers : Type 0
Numbers = FinMap nat_cmp ℕ

abbrev pub child : Children → ℕ → List ℕ → Option ℕ
child children folder name = option_and_then (λ (m : NameMap). maps.get m name) (maps.get children folder)

abbrev pub child_of : Children → List ℕ → Option ℕ → Option ℕ
child_of children name folder = option_and_then (λ a. child children a name) folder

-- where names lead, the first of them first
unfoldable pub led : Children → Option ℕ → List (List ℕ) → Option ℕ
led children folder [] = folder
led children folder (name ∷ names) = led children (child_of children name folder) names

-- what stands between slashes
abbrev pub split : Path → List (List ℕ)
split path = slice_split (λ b. b == slash) path

abbrev pub first_slash : Path → Option ℕ
first_slash text = position (λ b. b == slash) text

abbrev pub turned : List (List ℕ) → List (List ℕ) → List (List ℕ)
turned [] above = above
turned (name ∷ names) above = turned names (name ∷ above)

-- the names of a path, the last of them first
unfoldable pub names_of : Path → List (List ℕ)
names_of path = turned (split path) []

-- the folder that names lead to from the top, the last of them first
unfoldable pub at : Children → List (List ℕ) → Option ℕ
at children [] = Some top
at children (name ∷ above) = child_of children name (at children above)

-- From a folder back to its path.

abbrev pub above_in : Option Standing → ℕ
above_in None = top
above_in (Some s) = s.above

abbrev pub depth_in : Option Standing → ℕ
depth_in None = 0
depth_in (Some s) = s.depth

abbrev pub name_in : Option Standing → List ℕ
name_in None = []
name_in (Some s) = s.name

-- how many folders are above those in this one
abbrev pub depth_below : Option Standing → ℕ
depth_below None = 0
depth_below (Some s) = s.depth + 1

-- the path of a folder with so many above it
unfoldable pub climbed : Standings → ℕ → ℕ → Path
climbed standings zero folder = name_in (maps.get standings folder)
climbed standings (suc n) folder =
    climbed standings n (above_in (maps.get standings folder)) ++ slash ∷ name_in (maps.get standings folder)

abbrev pub path_of : Standings → ℕ → Path
path_of standings folder = climbed standings (depth_in (maps.get standings folder)) folder

-- the numbers of folders, by their paths
unfoldable pub named : Standings → Numbers → NameMap
named standings numbers =
    maps.from_entries {R = path_cmp} (map (λ e. (path_of standings e.0, e.1)) (maps.entries numbers))

-- the folder is there
abbrev pub stands : Standings → ℕ → Bool
stands standings folder = (folder == top) || is_some (maps.get standings folder)

-- each folder is where it says, and nowhere else
pub record IsTree (children : Children) (standings : Standings) (full_below : ℕ) : Type 0 where
  pub down : (folder : ℕ) (name : List ℕ) (i : ℕ) → child children folder name ≡ Some i
      → maps.get standings i
      ≡ Some (record { above = folder; depth = depth_below (maps.get standings folder); name = name })
  pub up : (i : ℕ) (s : Standing) → maps.get standings i ≡ Some s → child children s.above s.name ≡ Some i
  pub rooted : (i : ℕ) (s : Standing) → maps.get standings i ≡ Some s → stands standings s.above ≡ true
  pub bare : (i : ℕ) (s : Standing) → maps.get standings i ≡ Some s → has_slash s.name ≡ false
  pub topless : maps.get standings top ≡ None
  pub full : IsFullBelow standings full_below

-- the folders that have a number are there
abbrev pub AreThere : Standings → Numbers → Type 0
AreThere standings numbers = (i : ℕ) → IsSome (maps.get numbers i) → IsSome (maps.get standings i)

-- a name more leads to a folder
abbrev pub HasMore : Children → Children → ℕ → List ℕ → ℕ → Type 0
HasMore less more folder name k =
    (a : ℕ) (q : List ℕ)
    → child more a q ≡ (if (a == folder) && eq_by_cmp path_cmp q name then Some k else child less a q)

-- all numbers are those of the same paths
abbrev pub Keeps : Standings → Standings → Type 0
Keeps old new =
    (numbers : Numbers) → AreThere old numbers → AreThere new numbers × (named new numbers ≡ named old numbers)

-- the names of a path before those of a text lead to the folder
unfoldable pub Entered : Children → ℕ → List ℕ → Path → Type 0
Entered children folder rest path =
    (above : List (List ℕ)) × (at children above ≡ Some folder) × (turned (split rest) above ≡ names_of path)

-- names that lead to a folder lead there still
abbrev pub Stays : Children → Children → Type 0
Stays old new = (names : List (List ℕ)) (i : ℕ) → at old names ≡ Some i → at new names ≡ Some i

-- a path more, if it has a number
abbrev pub with_path : NameMap → Path → Option ℕ → NameMap
with_path names path None = names
with_path names path (Some number) = maps.insert names path number

-- some name in the folder leads there
abbrev pub IsAnyChild : Children → ℕ → Option ℕ → Type 0
IsAnyChild children folder None = (name : List ℕ) → child children folder name ≡ None
IsAnyChild children folder (Some i) = (name : List ℕ) × (child children folder name ≡ Some i)

-- a name leads nowhere from now on
abbrev pub HasLess : Children → Children → ℕ → List ℕ → Type 0
HasLess more less folder name =
    (a : ℕ) (q : List ℕ)
    → child less a q ≡ (if (a == folder) && eq_by_cmp path_cmp q name then None else child more a q)

-- numbers that a folder has none of are those of the same paths
abbrev pub KeepsBeside : ℕ → Standings → Standings → Type 0
KeepsBeside folder old new =
    (numbers : Numbers) → AreThere old numbers → maps.get numbers folder ≡ None
    → AreThere new numbers × (named new numbers ≡ named old numbers)

-- names that lead to another folder lead there still
abbrev pub StaysBeside : ℕ → Children → Children → Type 0
StaysBeside folder old new =
    (names : List (List ℕ)) (i : ℕ) → at old names ≡ Some i → (i == folder) ≡ false → at new names ≡ Some i
