-- Which calls fail behind a failure: those of a set that the run with this failure enters behind it.
use Rattle.std.specs.Prelude.{ℕ, ◌==◌, ◌&&◌, cond, Bool, true, false, List, [], ◌∷◌, take}
use Rattle.std.specs.List.{flat_map}
use Rattle.lx_abi.specs.declared.errno.Errno.{Errno}
use Rattle.lx_abi.specs.declared.log.Item.{Item}
use Rattle.lx_abi.specs.Scripts.{includes}
use Rattle.sweep_faults.specs.declared.faults.Place.{Place}
use Rattle.sweep_rows.specs.Entries.{rows_of}
use Rattle.sweep_rows.specs.Possible.{possible_errors}
use Rattle.sweep_rows.specs.declared.known.Occurrence.{Occurrence}
use Rattle.sweep_rows.specs.declared.verdicts.Verdict.{Verdict}
use Rattle.sweep_rows.specs.declared.verdicts.Verdict.TheVariants.{Hung, Killed, Broken, Torn, Lost, Dropped, Damaged}
use Rattle.sweep_rows.specs.declared.verdicts.Verdict.TheVariants.{Warned, Reported, Recovered, Ignored}
use Rattle.sweep_runs.specs.Cases.{cases_at, every_call}
use Rattle.sweep_rows.specs.declared.wanted.Case.{Case}
use Rattle.sweep_rows.specs.declared.wanted.Errors.{Errors}
use Rattle.sweep_rows.specs.declared.wanted.Errors.TheVariants.{Possible, These}
use Rattle.sweep_rows.specs.declared.wanted.Wanted.{Wanted}

-- the program bore a failure: its run went another way, and is no finding
abbrev pub is_borne : Verdict → Bool
is_borne Hung = false
is_borne Killed = false
is_borne Broken = false
is_borne Torn = false
is_borne Lost = false
is_borne Dropped = false
is_borne Damaged = true
is_borne Warned = true
is_borne Reported = true
is_borne Recovered = true
is_borne Ignored = false

-- the occurrence is the nth entry of the process into the call
abbrev pub is_there : Place → Occurrence → Bool
is_there p o = (p.pid == o.pid) && ((p.call == o.call.number) && (p.n == o.n))

-- those behind it
abbrev pub behind : Place → List Occurrence → List Occurrence
behind p [] = []
behind p (o ∷ os) = cond (is_there p o) os (behind p os)

-- each error that is named, or else the first that the occurrence can have
abbrev pub errors_behind : Occurrence → Errors → List Errno
errors_behind o Possible = take 1 (possible_errors o)
errors_behind o (These errors) = errors.items

abbrev pub second_at : Wanted → Occurrence → List Case
second_at w o = cond (includes w.calls o.call.number) (cases_at o (errors_behind o w.errors)) []

-- in the order in which the log of the run with the failure at this place has them
unfoldable pub seconds_of : Wanted → Bool → Place → List Item → List Case
seconds_of w follow p log = flat_map (second_at w) (behind p (rows_of every_call follow log))
