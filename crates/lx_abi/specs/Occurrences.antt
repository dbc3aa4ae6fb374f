-- How often each process has entered each call, as it is counted.
use Rattle.std.specs.Prelude.{ℕ}
use Rattle.std.specs.declared.cmp.Ordering.{Ordering}
use Rattle.std.specs.Ordering.{nat_cmp, ordering_then}
use Rattle.std.specs.Option.{unwrap_or}
use Rattle.std.specs.BTreeMap.{get}
use Rattle.lx_abi.specs.declared.occurrences.Occurrences.{Occurrences}

-- by pid, then by number
abbrev pub pair_cmp : ℕ × ℕ → ℕ × ℕ → Ordering
pair_cmp a b = ordering_then (nat_cmp a.0 b.0) (nat_cmp a.1 b.1)

abbrev pub count_of : Occurrences → ℕ → ℕ → ℕ
count_of o pid number = unwrap_or (get pair_cmp o.counts (pid, number)) 0
