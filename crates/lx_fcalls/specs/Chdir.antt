-- chdir(path): chdir(2).
use Rattle.std.specs.Prelude.{ℕ}
use Rattle.lx_abi.specs.Errnos.{enoent, enotdir}
use Rattle.lx_abi.specs.declared.log.Call.{Call}
use Rattle.lx_model.specs.Machine.{Refused, Returns}
use Rattle.lx_files.specs.Paths.{Path}
use Rattle.lx_files.specs.Places.{path_of, seen, place}
use Rattle.lx_files.specs.declared.places.Place.{Place}
use Rattle.lx_files.specs.declared.places.Lookup.{Lookup}
use Rattle.lx_files.specs.declared.places.Lookup.TheVariants.{Absent, IsFile, IsDirectory, NotDirectory}
use Rattle.lx_proc.specs.Answers.{Answers, argument}
use Rattle.lx_proc.specs.State.{with_entries, changed}
use Rattle.lx_proc.specs.declared.state.UserState.{UserState}
use Rattle.lx_proc.specs.declared.state.Shared.{Shared}
use Rattle.lx_fcalls.specs.Arguments.{at_place}
use Rattle.lx_fcalls.specs.Flags.{at_fdcwd}

abbrev pub goes_to : Shared → ℕ → UserState → Path → Lookup → Answers
goes_to s p b path Absent = Refused enoent
goes_to s p b path IsFile = Refused enotdir
goes_to s p b path NotDirectory = Refused enotdir
goes_to s p b path IsDirectory =
    Returns (with_entries s (changed s.entries p (λ e. record e { directory = path }))) b 0

abbrev pub goes_at : Shared → ℕ → UserState → Place → Answers
goes_at s p b place = goes_to s p b (path_of place) (seen s.tree place)

unfoldable pub chdir : Shared → ℕ → Call → UserState → Answers
chdir s p call b =
    at_place s p b at_fdcwd (argument call 0) (goes_at s p b)
