-- How many events a schedule gives.
use Rattle.std.specs.Prelude.{◌≡◌, ℕ, suc, ◌+◌, ◌≤◌, List, [], ◌∷◌, Some}
use Rattle.lx_abi.specs.declared.schedule.Event.{Event}
use Rattle.lx_abi.specs.declared.schedule.Word.{Word}
use Rattle.pt_schedule.specs.declared.schedule.Listed.{Listed}
use Rattle.pt_schedule.specs.declared.schedule.Order.TheVariants as order
use Rattle.pt_schedule.specs.declared.schedule.Schedule.{Schedule}
use Rattle.pt_schedule.specs.Schedules.{Readiness, next_of, events_left, listed, worded, most_events}

-- an event that is given leaves one less to come
abbrev pub EventsAreFew : Type 0
EventsAreFew = (s : Schedule) (seen : Readiness) (e : Event) → (next_of s seen).event ≡ Some e →
    events_left (next_of s seen).schedule + 1 ≡ events_left s

-- and at first there are so many at most
pub record IsFew (words : List Word) (limit : ℕ) (events : List Event) : Type 0 where
  pub words_limit : events_left (worded words limit) ≤ limit
  pub words_most : events_left (worded words limit) ≤ most_events
  pub list_most : events_left (listed events) ≤ most_events

abbrev pub FirstLeft : Type 0
FirstLeft = (words : List Word) (limit : ℕ) (events : List Event) → IsFew words limit events

-- a list gives its events, one by one, whatever is seen
abbrev pub some_listed : List Event → ℕ → Schedule
some_listed es left = record { order = order.Listed (record { events = es; left = left }) }

abbrev pub ListsGiveTheirEvents : Type 0
ListsGiveTheirEvents = (e : Event) (es : List Event) (n : ℕ) (seen : Readiness) →
    ((next_of (some_listed (e ∷ es) (suc n)) seen).event ≡ Some e)
    × ((next_of (some_listed (e ∷ es) (suc n)) seen).schedule ≡ some_listed es n)
