-- A list of requests in the place of a tracer's: each is put when the one before it was answered.
use Rattle.std.specs.Prelude.{◌≡◌, List, [], ◌∷◌, ◌++◌, ℕ, Option, Some, None}
use Rattle.lx_abi.specs.declared.outcome.Outcome.{Outcome}
use Rattle.lx_abi.specs.declared.ptrace.Reply.{Reply}
use Rattle.lx_abi.specs.declared.ptrace.Request.{Request}
use Rattle.lx_abi.specs.declared.schedule.Event.{Event}
use Rattle.lx_model.specs.Machine.{Machine}
use Rattle.pt_model.specs.Attending.{called, event, Schedules}
use Rattle.pt_model.specs.Ptrace.{Host}

-- the first request is pending until it is answered
abbrev pub left_asked : Request → List Request → Option Reply → List Request
left_asked q qs None = q ∷ qs
left_asked q qs (Some r) = qs

-- these events are all that the schedule gives, until the last request is answered or it has ended
abbrev pub FeedsList : {X S B : Type 0} → Schedules X S B → Machine S B → (S → Outcome) → X → Host S B
    → List Request → List Event → Type 0
FeedsList choose m outcome x h [] es = es ≡ []
FeedsList choose m outcome x h (q ∷ qs) [] = choose x (record { host = h; pending = Some q }) ≡ None
FeedsList {X} choose m outcome x h (q ∷ qs) (e ∷ es) =
    (y : X) × ((choose x (record { host = h; pending = Some q }) ≡ Some (e, y))
    × FeedsList choose m outcome y (event m outcome (record { host = h; pending = Some q }) e).attending.host
    (left_asked q qs (event m outcome (record { host = h; pending = Some q }) e).reply) es)

-- where they leave the host
abbrev pub host_after : {S B : Type 0} → Machine S B → (S → Outcome) → Host S B → List Request → List Event → Host S B
host_after m outcome h [] es = h
host_after m outcome h (q ∷ qs) es =
    host_after m outcome (called m outcome h q es).host qs (called m outcome h q es).left

-- the turns that they give to the kernel
abbrev pub turns_to : {S B : Type 0} → Machine S B → (S → Outcome) → Host S B → List Request → List Event → List ℕ
turns_to m outcome h [] es = []
turns_to m outcome h (q ∷ qs) es =
    (called m outcome h q es).turns
    ++ turns_to m outcome (called m outcome h q es).host qs (called m outcome h q es).left
