-- The run that --show names: CALL:ERROR:N, of process 1, or CALL@PID:ERROR:N; or with `stop`, `kill`, a world's word
-- or `short=COUNT` in the place of the error; or two failures, the second behind a +.
use Rattle.std.specs.Prelude.{ℕ, ◌==◌, List, Option, Some, None, if◌then◌else◌, bytes_eq, codes}
use Rattle.std.specs.Option.{option_and_then}
use Rattle.std.specs.Result.{result_ok}
use Rattle.front_end.specs.Numbers.{decimal}
use Rattle.lx_abi.specs.Calls.{call_number}
use Rattle.lx_abi.specs.Errors.{errno_numbered}
use Rattle.lx_abi.specs.declared.errno.Errno.{Errno}
use Rattle.sweep_rows.specs.declared.kinds.Kind.{Kind}
use Rattle.sweep_rows.specs.declared.kinds.Kind.TheVariants as kinds
use Rattle.tr_expr.specs.Parts.{errno_value}
use Rattle.tr_expr.specs.Texts.{has_mark, before_mark, after_mark}
use Rattle.sweep_rows.specs.declared.worlds.World.{World}
use Rattle.sweep_words.specs.Worlds.{world_in}
use Rattle.sweep_words.specs.declared.show.NamedDeep.{NamedDeep}
use Rattle.sweep_words.specs.declared.show.NamedRow.{NamedRow}
use Rattle.sweep_words.specs.declared.show.NamedRow.TheVariants.{Failure, Deep, Trial}
use Rattle.sweep_words.specs.declared.show.NamedRun.{NamedRun}
use Rattle.sweep_words.specs.declared.show.NamedTrial.{NamedTrial}

-- a number from 1 on
abbrev pub not_none : Option ℕ → Option ℕ
not_none None = None
not_none (Some n) = if n == 0 then None else Some n

unfoldable pub positive : List ℕ → Option ℕ
positive digits = not_none (decimal 18446744073709551615 digits)

-- behind an @ (character 64) stands the process, and before it the call
unfoldable pub pid_in : List ℕ → Option ℕ
pid_in text = if has_mark 64 text then positive (after_mark 64 text) else Some 1

unfoldable pub call_in : List ℕ → Option ℕ
call_in text = if has_mark 64 text then call_number (before_mark 64 text) else call_number text

unfoldable pub error_in : List ℕ → Option Errno
error_in text = option_and_then errno_numbered (result_ok (errno_value text))

-- a run is named where all its parts are
abbrev pub named : Option ℕ → Option ℕ → Option Errno → Option ℕ → Option NamedRun
named (Some pid) (Some call) (Some error) (Some n) =
    Some (record { pid = pid; call = call; error = error; n = n })
named (Some pid) (Some call) (Some error) None = None
named (Some pid) (Some call) None n = None
named (Some pid) None error n = None
named None call error n = None

unfoldable pub run_of : List ℕ → List ℕ → List ℕ → Option NamedRun
run_of call error n = named (pid_in call) (call_in call) (error_in error) (positive n)

-- the parts stand between colons (character 58)
unfoldable pub named_run : List ℕ → Option NamedRun
named_run text =
    if has_mark 58 text then (if has_mark 58 (after_mark 58 text)
    then run_of (before_mark 58 text) (before_mark 58 (after_mark 58 text)) (after_mark 58 (after_mark 58 text))
    else None) else None

-- what happens in the place of an error: `stop`, `kill`, a world, or `short=COUNT`, with an = (character 61)
unfoldable pub short_in : List ℕ → Option ℕ
short_in text =
    if has_mark 61 text then (if bytes_eq (before_mark 61 text) (codes "short")
    then positive (after_mark 61 text) else None) else None

abbrev pub world_or_short : Option World → Option ℕ → Option Kind
world_or_short (Some w) short = Some (kinds.World w)
world_or_short None (Some count) = Some (kinds.Short count)
world_or_short None None = None

unfoldable pub kind_in : List ℕ → Option Kind
kind_in text =
    if bytes_eq text (codes "stop") then Some kinds.Stop
    else (if bytes_eq text (codes "kill") then Some kinds.Killed else world_or_short (world_in text) (short_in text))

-- a trial is named where all its parts are
abbrev pub tried : Option ℕ → Option ℕ → Option Kind → Option ℕ → Option NamedTrial
tried (Some pid) (Some call) (Some kind) (Some n) =
    Some (record { pid = pid; call = call; kind = kind; n = n })
tried (Some pid) (Some call) (Some kind) None = None
tried (Some pid) (Some call) None n = None
tried (Some pid) None kind n = None
tried None call kind n = None

unfoldable pub trial_of : List ℕ → List ℕ → List ℕ → Option NamedTrial
trial_of call kind n = tried (pid_in call) (call_in call) (kind_in kind) (positive n)

unfoldable pub named_trial : List ℕ → Option NamedTrial
named_trial text =
    if has_mark 58 text then (if has_mark 58 (after_mark 58 text)
    then trial_of (before_mark 58 text) (before_mark 58 (after_mark 58 text)) (after_mark 58 (after_mark 58 text))
    else None) else None

-- two failures are named where each is; they stand before and behind a + (character 43)
abbrev pub both : Option NamedRun → Option NamedRun → Option NamedDeep
both (Some first) (Some second) = Some (record { first = first; second = second })
both (Some first) None = None
both None second = None

unfoldable pub named_deep : List ℕ → Option NamedDeep
named_deep text =
    if has_mark 43 text then both (named_run (before_mark 43 text)) (named_run (after_mark 43 text)) else None

-- two failures, or else one
abbrev pub failing_by : Option NamedDeep → Option NamedRun → Option NamedRow
failing_by (Some deep) run = Some (Deep deep)
failing_by None (Some run) = Some (Failure run)
failing_by None None = None

unfoldable pub failing_row : List ℕ → Option NamedRow
failing_row text = failing_by (named_deep text) (named_run text)

-- a trial, or else failures; no error has the name of a trial
abbrev pub row_by : Option NamedTrial → Option NamedRow → Option NamedRow
row_by (Some t) row = Some (Trial t)
row_by None row = row

unfoldable pub named_row : List ℕ → Option NamedRow
named_row text = row_by (named_trial text) (failing_row text)
