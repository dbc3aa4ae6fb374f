-- unlinkat(dirfd, path, flags): unlink(2), and rmdir(2) with AT_REMOVEDIR.
use Rattle.std.specs.List.{list_any}
use Rattle.std.specs.Prelude.{ℕ, ◌==◌, not, Bool, List, length, Option, Some, None, if◌then◌else◌}
use Rattle.std.specs.Str.{bytes_eq}
use Rattle.std.specs.FinMap as maps
use Rattle.lx_abi.specs.Errnos.{enoent, ebusy, enotdir, eisdir, einval, enotempty}
use Rattle.lx_abi.specs.declared.log.Call.{Call}
use Rattle.lx_model.specs.Machine.{Refused, Returns}
use Rattle.lx_files.specs.Paths.{Path}
use Rattle.lx_files.specs.Places.{path_of, seen, is_dot, is_dot_dot, place}
use Rattle.lx_files.specs.Trees.{is_empty}
use Rattle.lx_files.specs.declared.places.Place.{Place}
use Rattle.lx_files.specs.declared.places.Lookup.{Lookup}
use Rattle.lx_files.specs.declared.places.Lookup.TheVariants.{Absent, IsFile, IsDirectory, NotDirectory}
use Rattle.lx_open.specs.Releases.{unlinked}
use Rattle.lx_proc.specs.Answers.{Answers, argument, low_argument, unless}
use Rattle.lx_proc.specs.State.{with_tree}
use Rattle.lx_proc.specs.declared.state.UserState.{UserState}
use Rattle.lx_proc.specs.declared.state.Shared.{Shared}
use Rattle.lx_fcalls.specs.Arguments.{at_place}
use Rattle.lx_fcalls.specs.Flags.{is_within, has, at_removedir}

abbrev pub takes_away : Shared → UserState → Path → Answers
takes_away s b path = Returns (with_tree s (unlinked s.tree s.fds path)) b 0

abbrev pub removes_file : Shared → UserState → Path → Lookup → Answers
removes_file s b path Absent = Refused enoent
removes_file s b path IsFile = takes_away s b path
removes_file s b path IsDirectory = Refused eisdir
removes_file s b path NotDirectory = Refused enotdir

-- some process has it as its working directory
abbrev pub is_used : Shared → Path → Bool
is_used s path = list_any (λ e. bytes_eq e.directory path) (maps.values s.entries)

abbrev pub removes_directory : Shared → UserState → Path → Lookup → Answers
removes_directory s b path Absent = Refused enoent
removes_directory s b path IsFile = Refused enotdir
removes_directory s b path NotDirectory = Refused enotdir
removes_directory s b path IsDirectory =
    unless (is_empty s.tree path) enotempty
    (unless (not (is_used s path)) ebusy
    (takes_away s b path))

-- what a last part that is no name is refused with
abbrev pub nameless : List ℕ → ℕ → ℕ → ℕ → Option ℕ
nameless last none dot dots =
    if length last == 0 then Some none
    else if is_dot last then Some dot
    else if is_dot_dot last then Some dots
    else None

abbrev pub unless_nameless : Option ℕ → Answers → Answers
unless_nameless None answer = answer
unless_nameless (Some error) answer = Refused error

abbrev pub unlinks_directory : Shared → UserState → Place → Answers
unlinks_directory s b place =
    unless_nameless (nameless place.last ebusy einval enotempty)
    (removes_directory s b (path_of place) (seen s.tree place))

abbrev pub unlinks_file : Shared → UserState → Place → Answers
unlinks_file s b place =
    unless_nameless (nameless place.last eisdir eisdir eisdir)
    (removes_file s b (path_of place) (seen s.tree place))

abbrev pub unlinks : Shared → UserState → Bool → Place → Answers
unlinks s b directories place = if directories then unlinks_directory s b place else unlinks_file s b place

unfoldable pub unlinkat : Shared → ℕ → Call → UserState → Answers
unlinkat s p call b =
    let flags = argument call 2 in
    unless (is_within flags at_removedir) einval
    (at_place s p b (low_argument call 0) (argument call 1) (unlinks s b (has flags at_removedir)))
