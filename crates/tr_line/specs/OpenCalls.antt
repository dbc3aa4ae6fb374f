-- The open calls of processes, of which the one that was entered last stands apart.
use Rattle.std.specs.Prelude.{ℕ, ◌==◌, cond, Option, Some, None}
use Rattle.std.specs.FinMap as maps
use Rattle.std.specs.FinMap.{FinMap}
use Rattle.std.specs.Ordering.{nat_cmp}
use Rattle.tr_line.specs.declared.open_calls.OpenCall.{OpenCall}

abbrev pub with_latest : FinMap nat_cmp ℕ → Option OpenCall → FinMap nat_cmp ℕ
with_latest others None = others
with_latest others (Some o) = maps.insert others o.pid o.number

-- the call, if it isn't that of this process
abbrev pub without : Option OpenCall → ℕ → Option OpenCall
without None p = None
without (Some o) p = cond (o.pid == p) None (Some o)
