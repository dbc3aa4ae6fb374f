-- A host that attends to its pending request: events of a schedule until it is answered.
use Rattle.std.specs.Prelude.{◌≡◌, List, [], ◌∷◌, Option, Some, None}
use Rattle.lx_abi.specs.declared.ptrace.Reply.{Reply}
use Rattle.lx_abi.specs.declared.schedule.Event.{Event}
use Rattle.pt_schedule.specs.declared.schedule.Schedule.{Schedule}
use Rattle.pt_schedule.specs.Schedules.{next_of}
use Rattle.pt_kernel.specs.Hosts.{HostState, readiness_of, event_of}
use Rattle.pt_kernel.specs.AfterEvents.{after}
use Rattle.pt_kernel.specs.Noted.{noting}

-- where host and schedule stand in the end, and what was answered: none where the schedule ended before
pub record Attended : Type 0 where
  pub host : HostState
  pub schedule : Schedule
  pub reply : Option Reply

-- an event that answers is the last one
abbrev pub GoesOn : HostState → Schedule → List Event → Attended → Option Reply → Type 0 → Type 0
GoesOn h s es z (Some r) again = (es ≡ []) × (z ≡ record { host = h; schedule = s; reply = Some r })
GoesOn h s es z None again = again

-- each event is the schedule's next as the host stands, and the schedule has ended after the last one that
-- answers nothing
abbrev pub IsFed : HostState → Schedule → List Event → Attended → Type 0
IsFed h s [] z =
    ((next_of s (readiness_of h)).event ≡ None)
    × (z ≡ record { host = h; schedule = (next_of s (readiness_of h)).schedule; reply = None })
IsFed h s (e ∷ es) z =
    ((next_of s (readiness_of h)).event ≡ Some e)
    × GoesOn (after h e) (next_of s (readiness_of h)).schedule es z (event_of h e).reply
    (IsFed (after h e) (next_of s (readiness_of h)).schedule es z)

pub record Attends (h : HostState) (s : Schedule) (z : Attended) : Type 0 where
  -- the events that the schedule gave
  pub fed : List Event
  pub is_fed : IsFed h s fed z

-- and they are noted
pub record Notes (h : HostState) (s : Schedule) (noted : Option (List Event)) (z : Attended)
    (noted' : Option (List Event)) :
    Type 0 where
  pub attends : Attends h s z
  pub noted_are : noted' ≡ noting noted attends.fed
