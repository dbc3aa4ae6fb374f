-- What a sweep tells of all its runs.
use Rattle.std.specs.Prelude.{ℕ, ◌+◌, ◌==◌, nat_lt, Bool, cond, List, [], ◌∷◌, codes}
use Rattle.std.specs.List.{list_any}
use Rattle.sweep_rows.specs.Verdicts.{is_finding}
use Rattle.sweep_rows.specs.declared.verdicts.Verdict.{Verdict}
use Rattle.sweep_rows.specs.declared.verdicts.Verdict.TheVariants.{Hung, Killed, Broken, Torn, Lost, Dropped, Damaged}
use Rattle.sweep_rows.specs.declared.verdicts.Verdict.TheVariants.{Warned, Reported, Recovered, Ignored}

-- the worst first
abbrev pub rank : Verdict → ℕ
rank Hung = 0
rank Killed = 1
rank Broken = 2
rank Torn = 3
rank Lost = 4
rank Dropped = 5
rank Damaged = 6
rank Warned = 7
rank Reported = 8
rank Recovered = 9
rank Ignored = 10

abbrev pub name_of : Verdict → List ℕ
name_of Hung = codes "hung"
name_of Killed = codes "killed"
name_of Broken = codes "broken"
name_of Torn = codes "torn"
name_of Lost = codes "lost"
name_of Dropped = codes "dropped"
name_of Damaged = codes "damaged"
name_of Warned = codes "warned"
name_of Reported = codes "reported"
name_of Recovered = codes "recovered"
name_of Ignored = codes "ignored"

-- how many are this one
abbrev pub count : Verdict → List Verdict → ℕ
count v [] = 0
count v (w ∷ ws) = cond (rank w == rank v) 1 0 + count v ws

-- the worse of two
abbrev pub worse : Verdict → Verdict → Verdict
worse v w = cond (nat_lt (rank w) (rank v)) w v

-- of a run whose files were checked, this being its verdict without them: whether they are fine
abbrev pub checked : Bool → Verdict → Verdict
checked fine v = cond fine v (worse Broken v)

-- 0 only where none is a finding
abbrev pub status : List Verdict → ℕ
status verdicts = cond (list_any is_finding verdicts) 1 0
