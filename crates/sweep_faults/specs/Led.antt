-- A kernel that its schedule's own turns lead to where a call is entered. A run in which that call fails goes on
-- there.
use Rattle.std.specs.Prelude.{◌≡◌, ◌<◌, ◌+◌, ◌-◌, ◌++◌, ℕ, false, cond, List, Option, Some, None}
use Rattle.lx_abi.specs.declared.log.Item.{Item}
use Rattle.lx_abi.specs.Log.{entries, is_entry}
use Rattle.lx_kernel.specs.Runs.{Run}
use Rattle.pt_schedule.specs.declared.schedule.Schedule.{Schedule}
use Rattle.sweep_faults.specs.declared.faults.Fault.{Fault}
use Rattle.sweep_rows.specs.declared.kinds.Kind.{Kind}
use Rattle.sweep_faults.specs.declared.faults.Place.{Place}
use Rattle.sweep_faults.specs.Faults.{has_begun}
use Rattle.sweep_faults.specs.Runs.{RunsFaulted}

abbrev pub place_of : Fault → Place
place_of f = record { pid = f.pid; call = f.call; n = f.n }

abbrev pub fault_at : Place → Kind → Fault
fault_at place kind = record { pid = place.pid; call = place.call; n = place.n; kind = kind }

-- how often the place's process has entered its call
abbrev pub entered : Place → List Item → ℕ
entered place log = entries place.pid place.call log

-- each run from k' on by s' in which f fails is one from k on by s
abbrev pub RunsThrough : Fault → Run → Schedule → Run → Schedule → Type 0
RunsThrough f k s k' s' = (z : Run) → RunsFaulted f k' s' z → RunsFaulted f k s z

-- for each failure that hasn't begun in k', nor has then in k
abbrev pub LeadsOn : Run → Schedule → Run → Schedule → Type 0
LeadsOn k s k' s' =
    (f : Fault) → has_begun f k'.running.log ≡ false → (has_begun f k.running.log ≡ false) × RunsThrough f k s k' s'

-- for each kind of failure at the place
abbrev pub LeadsTo : Place → Run → Schedule → Run → Schedule → Type 0
LeadsTo place k s k' s' = (kind : Kind) → RunsThrough (fault_at place kind) k s k' s'

-- k' stands where the place's process has entered its call for the nth time, which it hadn't in k
pub record StandsAt (place : Place) (k : Run) (s : Schedule) (k' : Run) (s' : Schedule) : Type 0 where
  pub ahead : entered place k.running.log < place.n
  pub there : entered place k'.running.log ≡ place.n
  pub leads : LeadsTo place k s k' s'
  pub on : LeadsOn k s k' s'

-- the schedule ends in k' before the place: each run with a failure there ends in k' too
abbrev pub EndsBefore : Place → Run → Schedule → Run → Type 0
EndsBefore place k s k' = (kind : Kind) → RunsFaulted (fault_at place kind) k s k'

-- Of turns that are made up to a place.

-- so many entries come up to the place
abbrev pub IsAhead : Place → ℕ → List Item → Type 0
IsAhead place left log = left + entered place log ≡ place.n

-- after a turn that has logged this
unfoldable pub left_of : Place → ℕ → Option Item → ℕ
left_of place left None = left
left_of place left (Some item) = cond (is_entry place.pid place.call item) (left - 1) left

-- The place hadn't come by what was logged before the last turn; this holds for each failure that hadn't begun by
-- that.
pub record Before (place : Place) (log : List Item) (P : Fault → Type 0) : Type 0 where
  pub past : List Item
  pub last : List Item
  pub logged : log ≡ past ++ last
  pub ahead : entered place past < place.n
  pub holds : (f : Fault) → has_begun f past ≡ false → P f
