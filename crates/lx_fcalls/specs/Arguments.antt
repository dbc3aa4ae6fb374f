-- What calls on files read first: descriptors and paths.
use Rattle.std.specs.Prelude.{ℕ, ◌==◌, ◌||◌, Bool, List, if◌then◌else◌}
use Rattle.std.specs.declared.result.Result.{Result}
use Rattle.std.specs.declared.result.Result.TheVariants.{Ok, Err}
use Rattle.lx_abi.specs.Errnos.{ebadf, efault, enametoolong}
use Rattle.lx_abi.specs.Limits.{path_limit}
use Rattle.lx_files.specs.Places.{place, is_absolute, and_then}
use Rattle.lx_files.specs.declared.places.Place.{Place}
use Rattle.lx_open.specs.Opens.{slot, description}
use Rattle.lx_open.specs.declared.description.Description.{Description}
use Rattle.lx_open.specs.declared.description.Slot.{Slot}
use Rattle.lx_proc.specs.Answers.{Answers, given, granted}
use Rattle.lx_proc.specs.State.{directory}
use Rattle.lx_proc.specs.Texts.{Text, Whole, TooLong, Unreadable, text_at}
use Rattle.lx_proc.specs.declared.state.UserState.{UserState}
use Rattle.lx_proc.specs.declared.state.Shared.{Shared}
use Rattle.lx_fcalls.specs.Flags.{at_fdcwd}

-- an open descriptor: its slot and its description
abbrev pub opened : Shared → ℕ → ℕ → (Slot → Description → Answers) → Answers
opened s p fd answer =
    given (slot s.fds p fd) ebadf (λ named.
    given (description s.fds named.description) ebadf (answer named))

abbrev pub read_text : Text → Result (List ℕ) ℕ
read_text (Whole text) = Ok text
read_text TooLong = Err enametoolong
read_text Unreadable = Err efault

-- a relative path begins in the working directory alone
abbrev pub may_begin : ℕ → List ℕ → Bool
may_begin dirfd text = is_absolute text || (dirfd == at_fdcwd)

abbrev pub place_from : Shared → ℕ → ℕ → List ℕ → Result Place ℕ
place_from s p dirfd text = if may_begin dirfd text then place s.tree (directory s p) text else Err ebadf

-- the place of a path argument
abbrev pub place_at : Shared → ℕ → UserState → ℕ → ℕ → Result Place ℕ
place_at s p b dirfd at = and_then (place_from s p dirfd) (read_text (text_at b.memory path_limit at))

abbrev pub at_place : Shared → ℕ → UserState → ℕ → ℕ → (Place → Answers) → Answers
at_place s p b dirfd at answer = granted (place_at s p b dirfd at) answer
