-- The children of each process, listed beside the table.
use Rattle.std.specs.Prelude.{◌≡◌, ℕ, ◌==◌, ◌&&◌, ◌||◌, not, nat_lt, Bool, true, false, Option, Some, None}
use Rattle.std.specs.Ordering.{nat_cmp}
use Rattle.std.specs.FinMap as maps
use Rattle.std.specs.FinMap.{FinMap}
use Rattle.lx_proc.specs.declared.state.Entry.{Entry}
use Rattle.lx_proc.specs.declared.state.Life.{Life}
use Rattle.lx_proc.specs.declared.state.Life.TheVariants.{Alive, Dying, Zombie}
use Rattle.lx_proc.specs.declared.families.Families.{Families}
use Rattle.lx_proc.specs.Pairs.{PairSet, has, Sets, KeepsBut}

abbrev pub is_zombie : Life → Bool
is_zombie Alive = false
is_zombie (Dying w) = false
is_zombie (Zombie w) = true

-- a child of p, and a zombie where only those are meant
abbrev pub is_child : Bool → ℕ → Option Entry → Bool
is_child zombies p None = false
is_child zombies p (Some e) = (not zombies || is_zombie e.life) && (e.parent == p)

abbrev pub has_child : FinMap nat_cmp Entry → Bool → ℕ → ℕ → Bool
has_child entries zombies p n = is_child zombies p (maps.get entries n)

-- the pairs are those of a parent and a child; none of parent 0, an orphan's
abbrev pub Lists : PairSet → Bool → FinMap nat_cmp Entry → Type 0
Lists s zombies entries = (p n : ℕ) → has s p n ≡ has_child entries zombies p n && nat_lt 0 p

pub record AreFamilies (f : Families) (entries : FinMap nat_cmp Entry) : Type 0 where
  pub children : Lists f.children false entries
  pub zombies : Lists f.zombies true entries

-- a process is listed as a child of p, and as a zombie, or isn't; each other is as it was
pub record Listed (p n : ℕ) (child zombie : Bool) (f f' : Families) : Type 0 where
  pub children : Sets p n child f.children f'.children
  pub zombies : Sets p n zombie f.zombies f'.zombies

-- all but one are as they were
pub record KeptBut (p n : ℕ) (f f' : Families) : Type 0 where
  pub children : KeepsBut p n f.children f'.children
  pub zombies : KeepsBut p n f.zombies f'.zombies

-- as its entry says
abbrev pub IsListed : ℕ → Entry → Families → Families → Type 0
IsListed n e f f' = Listed e.parent n (nat_lt 0 e.parent) (is_zombie e.life && nat_lt 0 e.parent) f f'
