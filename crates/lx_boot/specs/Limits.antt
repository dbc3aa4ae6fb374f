-- Files and their paths are within the limits.
use Rattle.std.specs.Prelude.{ℕ, zero, suc, ◌+◌, ◌==◌, ◌&&◌, not, nat_le, Bool, List, [], ◌∷◌, take, length, if◌then◌else◌}
use Rattle.std.specs.List.{list_any, list_all, slice_split, sum_by}
use Rattle.lx_abi.specs.Limits.{longest_path, longest_name, largest_file, most_contents, most_nodes}
use Rattle.lx_abi.specs.declared.boot.GuestFile.{GuestFile}
use Rattle.lx_files.specs.Boots.{ends_directory}
use Rattle.lx_boot.specs.Paths.{is_under}

abbrev pub name_fits : List ℕ → Bool
name_fits name = nat_le (length name) longest_name

-- neither the path nor a name in it is too long
unfoldable pub path_fits : List ℕ → Bool
path_fits path = nat_le (length path) longest_path && list_all name_fits (slice_split (λ c. c == 47) path)

abbrev pub file_fits : GuestFile → Bool
file_fits f = path_fits f.path && nat_le (length f.content) largest_file

abbrev pub content_size : GuestFile → ℕ
content_size f = length f.content

-- a directory above the path ends at this place, and none of the files lies in it
abbrev pub is_new_directory : List GuestFile → List ℕ → ℕ → Bool
is_new_directory files path i = ends_directory path i && not (list_any (λ f. is_under f.path (take i path)) files)

-- how many such directories end before the path's first n places
unfoldable pub new_directories : List GuestFile → List ℕ → ℕ → ℕ
new_directories files path zero = 0
new_directories files path (suc n) = (if is_new_directory files path n then 1 else 0) + new_directories files path n

-- the root, the files, and the directories that they lie in, each once
unfoldable pub nodes : List GuestFile → ℕ
nodes [] = 1
nodes (f ∷ files) = 1 + new_directories files f.path (length f.path) + nodes files

-- each file, what all of them hold, and how many nodes they make
abbrev pub files_fit : List GuestFile → Bool
files_fit files =
    list_all file_fits files && nat_le (sum_by content_size files) most_contents && nat_le (nodes files) most_nodes
