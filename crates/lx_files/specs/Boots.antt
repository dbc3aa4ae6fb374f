-- The tree of a boot's files.
use Rattle.std.specs.Prelude.{◌≡◌, ℕ, zero, suc, ◌==◌, ◌&&◌, nat_lt, Bool, true, List, [], take, length, slice_index}
use Rattle.std.specs.Prelude.{is_some, if◌then◌else◌, fold}
use Rattle.std.specs.FinMap as maps
use Rattle.lx_abi.specs.declared.boot.GuestFile.{GuestFile}
use Rattle.lx_abi.specs.declared.outcome.Node.TheVariants.{File, Directory}
use Rattle.lx_files.specs.Paths.{Path, slash}
use Rattle.lx_files.specs.Trees.{Tree, created}

-- the root alone
abbrev pub rooted : Tree
rooted = created (record { names = maps.empty; nodes = maps.empty }) [] Directory

-- a slash stands at this place, and it isn't the first
abbrev pub ends_directory : Path → ℕ → Bool
ends_directory path i = nat_lt 0 i && (slice_index path i == slash)

-- something stands at the path
abbrev pub is_there : Tree → Path → Bool
is_there tree path = is_some (maps.get tree.names path)

-- the directories above what stands at any path stand too
unfoldable pub HasParents : Tree → Type 0
HasParents tree =
    (path : Path) (i : ℕ) → is_there tree path ≡ true → ends_directory path i ≡ true
    → is_there tree (take i path) ≡ true

-- a directory stands at the path, if nothing does
abbrev pub with_directory : Tree → Path → Tree
with_directory tree path = if is_there tree path then tree else created tree path Directory

abbrev pub with_directory_at : Tree → Path → ℕ → Tree
with_directory_at tree path i = if ends_directory path i then with_directory tree (take i path) else tree

-- the tree with the directories that end before the path's first n places
unfoldable pub with_directories : Tree → Path → ℕ → Tree
with_directories tree path zero = tree
with_directories tree path (suc n) = with_directory_at (with_directories tree path n) path n

-- a file, with the directories above it
abbrev pub with_file : Tree → GuestFile → Tree
with_file tree f = created (with_directories tree f.path (length f.path)) f.path (File f.content)

-- the tree of these files
abbrev pub tree_of : List GuestFile → Tree
tree_of files = fold with_file rooted files
