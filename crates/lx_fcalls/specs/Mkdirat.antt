-- mkdirat(dirfd, path, mode): mkdir(2). `.`, `..` and the root are there.
use Rattle.std.specs.Prelude.{ℕ}
use Rattle.lx_abi.specs.Errnos.{eexist, enotdir, enospc}
use Rattle.lx_abi.specs.declared.log.Call.{Call}
use Rattle.lx_abi.specs.declared.outcome.Node.TheVariants.{Directory}
use Rattle.lx_model.specs.Machine.{Refused, Returns}
use Rattle.lx_files.specs.Paths.{Path}
use Rattle.lx_files.specs.Places.{path_of, seen, place}
use Rattle.lx_files.specs.Trees.{created, has_room}
use Rattle.lx_files.specs.declared.places.Place.{Place}
use Rattle.lx_files.specs.declared.places.Lookup.{Lookup}
use Rattle.lx_files.specs.declared.places.Lookup.TheVariants.{Absent, IsFile, IsDirectory, NotDirectory}
use Rattle.lx_proc.specs.Answers.{Answers, argument, low_argument, unless}
use Rattle.lx_proc.specs.State.{with_tree}
use Rattle.lx_proc.specs.declared.state.UserState.{UserState}
use Rattle.lx_proc.specs.declared.state.Shared.{Shared}
use Rattle.lx_fcalls.specs.Arguments.{at_place}

abbrev pub makes : Shared → UserState → Path → Lookup → Answers
makes s b path Absent = unless (has_room s.tree) enospc (Returns (with_tree s (created s.tree path Directory)) b 0)
makes s b path IsFile = Refused eexist
makes s b path IsDirectory = Refused eexist
makes s b path NotDirectory = Refused enotdir

abbrev pub makes_at : Shared → UserState → Place → Answers
makes_at s b place = makes s b (path_of place) (seen s.tree place)

unfoldable pub mkdirat : Shared → ℕ → Call → UserState → Answers
mkdirat s p call b =
    at_place s p b (low_argument call 0) (argument call 1) (makes_at s b)
