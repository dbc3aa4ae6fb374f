-- What a maintainer has to look at, and what a strict one has.
use Rattle.std.specs.Prelude.{ℕ, ◌&&◌, ◌||◌, Bool, true, false, cond, List}
use Rattle.std.specs.List.{list_any}
use Rattle.sweep_rows.specs.Verdicts.{is_finding}
use Rattle.sweep_rows.specs.declared.verdicts.Verdict.{Verdict}
use Rattle.sweep_rows.specs.declared.verdicts.Verdict.TheVariants.{Hung, Killed, Broken, Torn, Lost, Dropped, Damaged}
use Rattle.sweep_rows.specs.declared.verdicts.Verdict.TheVariants.{Warned, Reported, Recovered, Ignored}

-- no finding, and yet told without being asked for
unfoldable pub is_noticed : Verdict → Bool
is_noticed Hung = false
is_noticed Killed = false
is_noticed Broken = false
is_noticed Torn = false
is_noticed Lost = false
is_noticed Dropped = false
is_noticed Damaged = true
is_noticed Warned = true
is_noticed Reported = false
is_noticed Recovered = false
is_noticed Ignored = false

-- a finding, to a strict maintainer or to another
unfoldable pub counts : Bool → Verdict → Bool
counts strict v = is_finding v || (strict && is_noticed v)

-- the exit status of runs with these verdicts
abbrev pub status_of : Bool → List Verdict → ℕ
status_of strict verdicts = cond (list_any (λ v. counts strict v) verdicts) 1 0
