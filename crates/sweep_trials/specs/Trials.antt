-- Which runs are made, in which something else happens to an occurrence of a call than that it has an error.
use Rattle.std.specs.Prelude.{◌≡◌, ℕ, ◌==◌, ◌&&◌, ◌||◌, ◌/◌, nat_lt, cond, is_some, Bool, true, List, [], ◌∷◌, ◌++◌}
use Rattle.std.specs.List.{flat_map}
use Rattle.lx_abi.specs.declared.log.Item.{Item}
use Rattle.lx_abi.specs.Sys.{sys_read, sys_write}
use Rattle.sweep_rows.specs.declared.kinds.Kind.{Kind}
use Rattle.sweep_rows.specs.declared.kinds.Kind.TheVariants as kinds
use Rattle.sweep_rows.specs.Descriptors.{argument}
use Rattle.sweep_rows.specs.Entries.{rows_of}
use Rattle.sweep_rows.specs.Worlds.{error_in}
use Rattle.sweep_rows.specs.declared.known.Occurrence.{Occurrence}
use Rattle.sweep_rows.specs.declared.worlds.World.{World}
use Rattle.sweep_runs.specs.declared.trials.Trial.{Trial}
use Rattle.sweep_words.specs.declared.show.NamedTrial.{NamedTrial}
use Rattle.sweep_words.specs.declared.trials.Deed.{Deed}
use Rattle.sweep_words.specs.declared.trials.Deed.TheVariants.{Stop, Kill, Short, Begin}
use Rattle.sweep_words.specs.declared.trials.Tried.{Tried}

-- a call of this number has a count as its third argument (read(2), write(2))
abbrev pub has_count : ℕ → Bool
has_count number = (number == sys_read) || (number == sys_write)

-- so many bytes are asked for; by other calls none
abbrev pub asked_of : Occurrence → ℕ
asked_of o = cond (has_count o.call.number) (argument o.call 2) 0

abbrev pub trial_at : Occurrence → Kind → Trial
trial_at o kind = record { occurrence = o; kind = kind }

abbrev pub short_if : Bool → Occurrence → ℕ → List Trial
short_if wanted o count = cond wanted (trial_at o (kinds.Short count) ∷ []) []

-- a read or write of more than one byte is done with one, and with half of its bytes
abbrev pub shorts_at : Occurrence → List Trial
shorts_at o = short_if (nat_lt 1 (asked_of o)) o 1 ++ short_if (nat_lt 1 (asked_of o / 2)) o (asked_of o / 2)

-- a world begins where it has the call fail: from any other entry on, the run is that from the next such one on
abbrev pub begins : World → Occurrence → Bool
begins w o = is_some (error_in w o.call o.used.target)

-- everything ends as the call is entered, or its process is killed there, or it is short, or a world begins
abbrev pub trials_at : Deed → Occurrence → List Trial
trials_at Stop o = trial_at o kinds.Stop ∷ []
trials_at Kill o = trial_at o kinds.Killed ∷ []
trials_at Short o = shorts_at o
trials_at (Begin w) o = cond (begins w o) (trial_at o (kinds.World w) ∷ []) []

-- at each entry into a call of the set, in the order of the log
abbrev pub trials_of : Tried → Bool → List Item → List Trial
trials_of tried follow log = flat_map (trials_at tried.deed) (rows_of tried.calls follow log)

-- The one that words name.

-- it is the nth entry of the process into the call
abbrev pub is_entry_of : NamedTrial → Occurrence → Bool
is_entry_of named o =
    ((named.pid == o.pid) && (named.call == o.call.number)) && (named.n == o.n)

-- a short call is asked for more
abbrev pub fits : Kind → Occurrence → Bool
fits (kinds.Short count) o = nat_lt count (asked_of o)
fits _ o = true

pub record IsThat (named : NamedTrial) (t : Trial) : Type 0 where
  pub entry : is_entry_of named t.occurrence ≡ true
  pub kind : t.kind ≡ named.kind
  pub fits : fits t.kind t.occurrence ≡ true
