-- What a fault of a boot is found in: a file, by its place in the boot, or a limit.
use Rattle.std.specs.Prelude.{ℕ, ◌+◌, ◌-◌, ◌==◌, List, [], ◌∷◌, length, take, nat_le, nat_lt, if◌then◌else◌, Option, Some, None, option_map}
use Rattle.std.specs.List.{list_any, list_all, slice_split, position}
use Rattle.std.specs.Option.{option_or}
use Rattle.std.specs.Str.{bytes_eq}
use Rattle.lx_abi.specs.declared.boot.Boot.{Boot}
use Rattle.lx_abi.specs.declared.boot.GuestFile.{GuestFile}
use Rattle.lx_abi.specs.declared.boot.Limits.{Limits}
use Rattle.lx_abi.specs.Limits.{is_between, longest_path, largest_file, most_contents}
use Rattle.lx_boot.specs.declared.boots.BootFault.{BootFault}
use Rattle.lx_boot.specs.declared.boots.BootFault.TheVariants.{BadPath, Duplicate, NoProgram, TooLarge, Memory, BadLimit}
use Rattle.lx_boot.specs.declared.culprits.Culprit.{Culprit}
use Rattle.lx_boot.specs.declared.culprits.Culprit.TheVariants.{Path, Under, Repeated, LongPath, LongName, LargeFile, LargeFiles, Live, LastPid}
use Rattle.lx_boot.specs.Boots.{is_bad_path}
use Rattle.lx_boot.specs.Limits.{name_fits, content_size}
use Rattle.lx_boot.specs.Paths.{is_under}

-- the path at this place is bad, or lies under a file's, the first that it does
unfoldable pub misplaced_at : List GuestFile → ℕ → List ℕ → Option Culprit
misplaced_at files at path =
    if is_bad_path path then Some (Path at)
    else option_map (λ above. Under at above) (position (λ f. is_under path f.path) files)

-- the first of the last files, from a place on, that is misplaced among all
unfoldable pub misplaced : List GuestFile → ℕ → List GuestFile → Option Culprit
misplaced files at [] = None
misplaced files at (f ∷ rest) = option_or (misplaced_at files at f.path) (misplaced files (at + 1) rest)

-- the first of the last files, from a place on, that has the path of one before it
unfoldable pub repeated : List GuestFile → ℕ → List GuestFile → Option Culprit
repeated files at [] = None
repeated files at (f ∷ rest) =
    if list_any (λ g. bytes_eq f.path g.path) (take at files) then Some (Repeated at)
    else repeated files (at + 1) rest

-- the file at this place is over a limit by itself
unfoldable pub oversized_at : ℕ → GuestFile → Option Culprit
oversized_at at f =
    if nat_lt longest_path (length f.path) then Some (LongPath at)
    else if list_all name_fits (slice_split (λ c. c == 47) f.path) then
    (if nat_lt largest_file (length f.content) then Some (LargeFile at) else None)
    else Some (LongName at)

-- the first file, from a place on, that is over a limit by itself, or that the room for contents is too small for
unfoldable pub oversized : ℕ → ℕ → List GuestFile → Option Culprit
oversized room at [] = None
oversized room at (f ∷ rest) =
    option_or (oversized_at at f)
    (if nat_lt room (content_size f) then Some (LargeFiles at) else oversized (room - content_size f) (at + 1) rest)

-- the limit that is out of its range
abbrev pub limit_culprit : Limits → Culprit
limit_culprit limits = if is_between 1024 limits.live then LastPid else Live

-- what this fault of the boot is found in, if in one file or limit
abbrev pub culprit_of : Boot → BootFault → Option Culprit
culprit_of boot BadPath = misplaced boot.files 0 boot.files
culprit_of boot Duplicate = repeated boot.files 0 boot.files
culprit_of boot NoProgram = None
culprit_of boot TooLarge = oversized most_contents 0 boot.files
culprit_of boot Memory = None
culprit_of boot BadLimit = Some (limit_culprit boot.limits)
