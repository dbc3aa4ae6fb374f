-- Where the runs of pages of a memory begin, how many pages are missing before them, and the marks that are set there.
use Rattle.std.specs.Prelude.{ℕ, zero, suc, ◌+◌, ◌*◌, ◌/◌, ◌<◌, ◌≤◌, ◌≡◌, Bool, true, false, if◌then◌else◌, nat_lt, List, [], ◌∷◌, IsSome, None}
use Rattle.std.specs.Ordering.{nat_cmp}
use Rattle.std.specs.FinMap.{get}
use Rattle.std.specs.BTreeSet.{BTreeSet, contains}
use Rattle.rv_mem.specs.Memory.{Memory}
use Rattle.rv_mem.specs.declared.beginnings.Beginnings.{Beginnings}

-- the page with a number is mapped, and these many before it, one at least, are not
pub record IsAboveGap (m : Memory) (n pages : ℕ) : Type 0 where
  pub some : 0 < pages
  pub fits : pages ≤ n
  pub here : IsSome (get m (4096 * n))
  pub free : (k : ℕ) → k < n → n ≤ k + pages → get m (4096 * k) ≡ None

-- the class of a number of pages, after at most so many halvings
unfoldable pub class_within : ℕ → ℕ → ℕ
class_within zero pages = pages
class_within (suc k) pages = if nat_lt pages 8 then pages else class_within k (pages / 2) + 4

-- a number below eight has a class of its own, and the numbers of each doubling from there on have four
abbrev pub class_of : ℕ → ℕ
class_of pages = class_within pages pages

-- whether the set of a class has a number
unfoldable pub is_in_class : List (BTreeSet ℕ) → ℕ → ℕ → Bool
is_in_class [] c n = false
is_in_class (s ∷ ss) zero n = contains nat_cmp s n
is_in_class (s ∷ ss) (suc c) n = is_in_class ss c n

-- a number has a mark in the set of a class
abbrev pub IsMarked : Beginnings → ℕ → ℕ → Type 0
IsMarked b c n = is_in_class b.gaps.items c n ≡ true

-- a number has a mark that tells of a gap of these many pages or more, if the marks are known
abbrev pub Marks : Beginnings → ℕ → ℕ → Type 0
Marks b n pages = b.known ≡ true → (c : ℕ) × (class_of pages ≤ c) × IsMarked b c n

-- each gap before a page has its mark
abbrev pub Begun : Beginnings → Memory → Type 0
Begun b m = (n pages : ℕ) → IsAboveGap m n pages → Marks b n pages
