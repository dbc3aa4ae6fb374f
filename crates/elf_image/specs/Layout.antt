-- Extents: runs of memory, and how they lie beside each other.
use Rattle.std.specs.Prelude.{ℕ, ◌+◌, ◌-◌, ◌*◌, ◌/◌, Bool, false, ◌||◌, not, List, [], ◌∷◌, count_by, nat_lt, max, min}
use Rattle.std.specs.List.{list_any, range_with_len}
use Rattle.elf_image.specs.declared.layout.Extent.{Extent}

-- m bytes from a on and n bytes from b on have a byte in common
abbrev pub meets : ℕ → ℕ → ℕ → ℕ → Bool
meets a m b n = nat_lt (max a b) (min (a + m) (b + n))

-- two extents share a byte
abbrev pub shares : Extent → Extent → Bool
shares a b = meets a.address a.size b.address b.size

-- two of the extents share a byte
abbrev pub any_share : List Extent → Bool
any_share [] = false
any_share (e ∷ es) = list_any (shares e) es || any_share es

-- an extent passes the range of addresses that segments lie in, 0x1000..0x2000000000
abbrev pub is_outside : Extent → Bool
is_outside e = nat_lt e.address 0x1000 || nat_lt 0x2000000000 (e.address + e.size)

-- an extent has a byte on a page, the 4,096 bytes from 4096 * page on
abbrev pub touches : ℕ → Extent → Bool
touches page e = meets (4096 * page) 4096 e.address e.size

-- the pages that an extent has bytes on
abbrev pub pages_of : Extent → List ℕ
pages_of e = range_with_len (e.address / 4096) ((e.address + e.size - 1) / 4096 + 1 - e.address / 4096)

-- how many pages an extent has bytes on, and none of the others has
abbrev pub own_pages : Extent → List Extent → ℕ
own_pages e others = count_by (λ page. not (list_any (touches page) others)) (pages_of e)

-- how many pages extents have bytes on: each page counts once, at the last that has bytes on it
abbrev pub page_count : List Extent → ℕ
page_count [] = 0
page_count (e ∷ es) = own_pages e es + page_count es

-- an extent is out of range, or there are more than 8,192 pages
unfoldable pub are_too_large : List Extent → Bool
are_too_large es = list_any is_outside es || nat_lt 8192 (page_count es)
