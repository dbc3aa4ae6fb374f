-- The errors that calls answer here, beside those that a sweep tries.
use Rattle.std.specs.Prelude.{◌≡◌, ℕ, Bool, true, ◌||◌, ◌==◌, List, [], ◌∷◌, ◌++◌}
use Rattle.std.specs.List.{list_all, list_any}
use Rattle.lx_abi.specs.Errnos.{e2big, ebadf, efault, einval, eisdir, enametoolong, enoexec, enospc, enotdir, enotempty, erange}
use Rattle.lx_abi.specs.Sys.{sys_ftruncate}
use Rattle.lx_proc.specs.Refusals.{is_error_of}
use Rattle.lx_fcalls.specs.Errors.{file_errors}
use Rattle.lx_pcalls.specs.Errors.{process_errors}
use Rattle.call_errors.specs.Errors.{call_errors}

-- those that a program meets only by what it passes
abbrev pub of_arguments : List ℕ
of_arguments =
    ebadf ∷ efault ∷ einval ∷ enametoolong ∷ enotdir ∷ eisdir ∷ enotempty ∷ e2big ∷ enoexec ∷ erange ∷ []

-- the manual page of ftruncate has no ENOSPC
abbrev pub beside_the_page : List (ℕ × List ℕ)
beside_the_page = (sys_ftruncate, enospc ∷ []) ∷ []

abbrev pub is_tried : ℕ → ℕ → Bool
is_tried number error =
    list_any (λ e. e == error) of_arguments || is_error_of call_errors number error
    || is_error_of beside_the_page number error

abbrev pub SweepsTryTheRest : Type 0
SweepsTryTheRest = list_all (λ row. list_all (is_tried row.0) row.1) (file_errors ++ process_errors) ≡ true
