-- The environment of a program, as strace(1) shows it: its address, and how many variables it has (execve(2)).
use Rattle.std.specs.Prelude.{ℕ, ◌==◌, nat_lt, List, [], ◌++◌, length, codes, decimal, if◌then◌else◌}
use Rattle.tr_values.specs.Sheets.{Sheet, Shown, put, reads, ◌>>=◌}
use Rattle.tr_values.specs.Numbers.{pointer}
use Rattle.tr_args.specs.Lists.{words, null_at}
use Rattle.tr_values.specs.Structs.{unless_null}

abbrev pub variables : ℕ → List ℕ
variables n = codes " /* " ++ (decimal n ++ (if n == 1 then codes " var */" else codes " vars */"))

-- the count is shown where the list ends within what was read, 512 pointers at most
unfoldable pub environment_read : ℕ → List ℕ → Sheet → Shown
environment_read address bs s = do
  s ← pointer address s
  put (if nat_lt (null_at (words bs)) (length (words bs)) then variables (null_at (words bs)) else []) s

unfoldable pub environment : ℕ → Sheet → Shown
environment address s = unless_null address (reads address 4096 (environment_read address)) s
