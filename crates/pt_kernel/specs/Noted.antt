-- Events that are noted as they come, and kept as rows.
use Rattle.std.specs.Prelude.{◌≡◌, List, [], ◌∷◌, ◌++◌, replicate, Option, Some, None}
use Rattle.lx_abi.specs.declared.schedule.Event.{Event}
use Rattle.pt_kernel.specs.declared.events.EventRow.{EventRow}

abbrev pub events_in : EventRow → List Event
events_in r = replicate r.times r.event

abbrev pub all_events : List EventRow → List Event
all_events [] = []
all_events (r ∷ rs) = events_in r ++ all_events rs

-- what is noted with more events; nothing is where nobody asked for it
abbrev pub noting : Option (List Event) → List Event → Option (List Event)
noting None more = None
noting (Some events) more = Some (events ++ more)
