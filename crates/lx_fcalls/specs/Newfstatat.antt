-- newfstatat(dirfd, path, buf, flags): stat(2).
use Rattle.std.specs.Prelude.{ℕ, List, length}
use Rattle.lx_abi.specs.Errnos.{enoent, enotdir, einval}
use Rattle.lx_abi.specs.declared.log.Call.{Call}
use Rattle.lx_model.specs.Machine.{Refused}
use Rattle.lx_files.specs.Kinds.{bytes_of}
use Rattle.lx_files.specs.Paths.{Path}
use Rattle.lx_files.specs.Places.{path_of, seen, place}
use Rattle.lx_files.specs.Trees.{node_at}
use Rattle.lx_files.specs.declared.places.Place.{Place}
use Rattle.lx_files.specs.declared.places.Lookup.{Lookup}
use Rattle.lx_files.specs.declared.places.Lookup.TheVariants.{Absent, IsFile, IsDirectory, NotDirectory}
use Rattle.lx_files.specs.declared.tree.Tree.{Tree}
use Rattle.lx_proc.specs.Answers.{Answers, argument, low_argument, unless, gives}
use Rattle.lx_proc.specs.declared.state.UserState.{UserState}
use Rattle.lx_proc.specs.declared.state.Shared.{Shared}
use Rattle.lx_fcalls.specs.Arguments.{at_place}
use Rattle.lx_fcalls.specs.Flags.{is_within, at_symlink_nofollow}
use Rattle.lx_fcalls.specs.Stat.{stat, file_mode, directory_mode}

abbrev pub size_at : Tree → Path → ℕ
size_at tree path = length (bytes_of (node_at tree path))

abbrev pub tells : Shared → UserState → ℕ → List ℕ → Lookup → Answers
tells s b at path Absent = Refused enoent
tells s b at path IsFile = gives s b at (stat file_mode (size_at s.tree path)) 0
tells s b at path IsDirectory = gives s b at (stat directory_mode 0) 0
tells s b at path NotDirectory = Refused enotdir

abbrev pub tells_at : Shared → UserState → ℕ → Place → Answers
tells_at s b at place = tells s b at (path_of place) (seen s.tree place)

unfoldable pub newfstatat : Shared → ℕ → Call → UserState → Answers
newfstatat s p call b =
    unless (is_within (argument call 3) at_symlink_nofollow) einval
    (at_place s p b (low_argument call 0) (argument call 1) (tells_at s b (argument call 2)))
