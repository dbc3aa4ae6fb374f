-- Directories whose folders are known, and how paths are looked up from there.
use Rattle.std.specs.Prelude.{◌≡◌, ℕ, true, List, [], ◌∷◌, Some, IfSome}
use Rattle.lx_files.specs.Paths.{Path}
use Rattle.lx_files.specs.Folders.{Children, Standings, at, names_of, stands, Entered}
use Rattle.lx_files.specs.declared.known.Known.{Known}
use Rattle.lx_files.specs.declared.cache.DirectoryCache.{DirectoryCache}

-- its path leads to its folder
abbrev pub IsKnown : Children → Known → Type 0
IsKnown children k = at children (names_of k.path) ≡ Some k.folder

abbrev pub AreKnown : Children → List Known → Type 0
AreKnown children [] = Unit {0}
AreKnown children (k ∷ ks) = IsKnown children k × AreKnown children ks

abbrev pub IsCached : Children → DirectoryCache → Type 0
IsCached children c = IfSome c.made (IsKnown children) × AreKnown children c.entered.items

-- from a folder that stands a text leads where the path does
abbrev pub IsWay : Children → Standings → ℕ → List ℕ → Path → Type 0
IsWay children standings folder rest path =
    Entered children folder rest path × (stands standings folder ≡ true)
