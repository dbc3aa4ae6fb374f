-- What a text of a path names (POSIX, "Pathname Resolution").
use Rattle.std.specs.Prelude.{ℕ, ◌==◌, ◌||◌, nat_lt, nat_eq, Bool, true, false, List, [], ◌∷◌, ◌++◌, length}
use Rattle.std.specs.Prelude.{Option, Some, None, if◌then◌else◌}
use Rattle.std.specs.declared.result.Result.{Result}
use Rattle.std.specs.declared.result.Result.TheVariants.{Ok, Err}
use Rattle.std.specs.List.{filter, list_any, slice_split, starts_with, ends_with}
use Rattle.std.specs.Str.{bytes_eq}
use Rattle.lx_abi.specs.declared.errno.Errno.{Errno}
use Rattle.lx_abi.specs.declared.outcome.Node.{Node}
use Rattle.lx_abi.specs.declared.outcome.Node.TheVariants.{File, Directory}
use Rattle.lx_abi.specs.Errnos.{enoent, enotdir, enametoolong}
use Rattle.lx_abi.specs.Limits.{longest_name}
use Rattle.lx_files.specs.Paths.{Path, slash, parent}
use Rattle.lx_files.specs.Trees.{Tree, node_at}
pub use Rattle.lx_files.specs.declared.places.Place.{Place}
use Rattle.lx_files.specs.declared.places.Lookup.{Lookup}
use Rattle.lx_files.specs.declared.places.Lookup.TheVariants.{Absent, IsFile, IsDirectory, NotDirectory}

-- on from an answer, unless it is a refusal
abbrev pub and_then : {A B : Type 0} → (A → Result B ℕ) → Result A ℕ → Result B ℕ
and_then f (Ok x) = f x
and_then f (Err e) = Err e

-- the same answer, with the number of its error
abbrev pub numbered : {A : Type 0} → Result A Errno → Result A ℕ
numbered (Ok x) = Ok x
numbered (Err e) = Err e.number

-- what stands between slashes
abbrev pub pieces : List ℕ → List (List ℕ)
pieces text = slice_split (λ b. b == slash) text

-- the pieces that aren't empty
abbrev pub parts : List (List ℕ) → List (List ℕ)
parts pieces = filter (λ part. nat_lt 0 (length part)) pieces

abbrev pub is_dot : List ℕ → Bool
is_dot part = bytes_eq part (46 ∷ [])

abbrev pub is_dot_dot : List ℕ → Bool
is_dot_dot part = bytes_eq part (46 ∷ 46 ∷ [])

-- where a part leads from a directory; an empty one and `.` stay
unfoldable pub beyond : Path → List ℕ → Path
beyond at part =
    if (length part == 0) || is_dot part then at
    else if is_dot_dot part then parent at
    else at ++ slash ∷ part

-- why what stands there can't be entered
abbrev pub bar : Option Node → Option ℕ
bar None = Some enoent
bar (Some (File bytes)) = Some enotdir
bar (Some Directory) = None

abbrev pub unless_barred : Option ℕ → Path → Result Path ℕ
unless_barred None path = Ok path
unless_barred (Some error) path = Err error

-- the path, if a directory stands there
abbrev pub entered : Tree → Path → Result Path ℕ
entered tree path = unless_barred (bar (node_at tree path)) path

-- the directory and the last part, once each part before it was entered
unfoldable pub reached : Tree → Bool → Path → List ℕ → List (List ℕ) → Result Place ℕ
reached tree slashed at last [] = Ok (record { under = at; last = last; slashed = slashed })
reached tree slashed at last (part ∷ parts) =
    and_then (λ next. reached tree slashed next part parts) (entered tree (beyond at last))

abbrev pub is_long : List ℕ → Bool
is_long part = nat_lt longest_name (length part)

abbrev pub is_absolute : List ℕ → Bool
is_absolute text = starts_with nat_eq text (slash ∷ [])

abbrev pub is_slashed : List ℕ → Bool
is_slashed text = ends_with nat_eq text (slash ∷ [])

abbrev pub start_of : Path → List ℕ → Path
start_of directory text = if is_absolute text then [] else directory

-- the place that a text names, from a working directory: the directory in which its last part stands, that part
-- (empty for slashes alone), and whether a slash follows it
unfoldable pub place : Tree → Path → List ℕ → Result Place ℕ
place tree directory text =
    if length text == 0 then Err enoent
    else if list_any is_long (pieces text) then Err enametoolong
    else reached tree (is_slashed text) (start_of directory text) [] (parts (pieces text))

abbrev pub path_of : Place → Path
path_of place = beyond place.under place.last

-- what stands at a path; a slash behind it wants a directory
abbrev pub sight : Bool → Option Node → Lookup
sight slashed None = Absent
sight true (Some (File bytes)) = NotDirectory
sight false (Some (File bytes)) = IsFile
sight slashed (Some Directory) = IsDirectory

abbrev pub seen : Tree → Place → Lookup
seen tree place = sight place.slashed (node_at tree (path_of place))
