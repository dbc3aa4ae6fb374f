-- The host alone: at most one request is pending, and an event may answer it.
use Rattle.std.specs.Prelude.{◌≡◌, ◌≢◌, ◌⊎◌, ℕ, Bool, true, false, cond, List, [], ◌∷◌, ◌++◌, Option, Some, None}
use Rattle.lx_abi.specs.declared.log.Mode.TheVariants as mode
use Rattle.lx_abi.specs.declared.outcome.Outcome.{Outcome}
use Rattle.lx_abi.specs.declared.ptrace.Reply.{Reply}
use Rattle.lx_abi.specs.declared.ptrace.Reply.TheVariants.{OutOfTurns as Out_of_turns}
use Rattle.lx_abi.specs.declared.ptrace.Request.{Request}
use Rattle.lx_abi.specs.declared.schedule.Event.{Event}
use Rattle.lx_abi.specs.declared.schedule.Event.TheVariants.{Turn, Serve}
use Rattle.lx_model.specs.Machine.{Machine}
use Rattle.lx_model.specs.Finite.{task_mode}
use Rattle.pt_model.specs.Ptrace.{Host, host_turn_of, host_turn, is_effective, is_there}
use Rattle.pt_model.specs.Requests.{serve}

pub record Attending (S B : Type 0) : Type 0 where
  pub host : Host S B
  pub pending : Option Request

-- a request is put; while another is pending the host is busy
abbrev pub asked_at : {S B : Type 0} → Host S B → Request → Option Request → Option (Attending S B)
asked_at h q None = Some (record { host = h; pending = Some q })
asked_at h q (Some other) = None

abbrev pub asked : {S B : Type 0} → Attending S B → Request → Option (Attending S B)
asked a q = asked_at a.host q a.pending

-- a request is pending, and would be answered
abbrev pub would_answer : {S B : Type 0} → Machine S B → (S → Outcome) → Host S B → Option Request → Bool
would_answer m outcome h None = false
would_answer m outcome h (Some q) = is_there (serve m outcome h q).reply

abbrev pub is_ready : {S B : Type 0} → Machine S B → (S → Outcome) → Attending S B → Bool
is_ready m outcome a = would_answer m outcome a.host a.pending

-- a turn of the process is effective, and runs an instruction or changes its mode
abbrev pub IsHostAble : {S B : Type 0} → Machine S B → Host S B → ℕ → Type 0
IsHostAble m h p =
    (is_effective m h.shared p (h.procs p) ≡ true)
    × ((task_mode (h.procs p).task ≡ Some mode.Run)
    ⊎ (task_mode (host_turn_of m h p).task ≢ task_mode (h.procs p).task))

-- Events

pub record Happened (S B : Type 0) : Type 0 where
  pub attending : Attending S B
  pub reply : Option Reply

abbrev pub left_pending : Request → Option Reply → Option Request
left_pending q None = Some q
left_pending q (Some r) = None

abbrev pub serve_pending : {S B : Type 0} → Machine S B → (S → Outcome) → Host S B → Option Request → Happened S B
serve_pending m outcome h None = record { attending = record { host = h; pending = None }; reply = None }
serve_pending m outcome h (Some q) = record {
  attending = record { host = (serve m outcome h q).host; pending = left_pending q (serve m outcome h q).reply };
  reply = (serve m outcome h q).reply;
}

abbrev pub event : {S B : Type 0} → Machine S B → (S → Outcome) → Attending S B → Event → Happened S B
event m outcome a (Turn p) = record {
  attending = record { host = host_turn m a.host p; pending = a.pending };
  reply = None;
}
event m outcome a Serve = serve_pending m outcome a.host a.pending

-- the turns that an event gives to the kernel
abbrev pub turned : {S B : Type 0} → Machine S B → Host S B → Event → List ℕ
turned m h (Turn p) = cond (is_effective m h.shared p (h.procs p)) (p ∷ []) []
turned m h Serve = []

-- what a list of events leaves
abbrev pub attended : {S B : Type 0} → Machine S B → (S → Outcome) → Attending S B → List Event → Attending S B
attended m outcome a [] = a
attended m outcome a (e ∷ es) = attended m outcome (event m outcome a e).attending es

-- Calls: a request is put, and events are fed until it is answered

pub record Called (S B : Type 0) : Type 0 where
  pub host : Host S B
  -- none where the events were used up before
  pub reply : Option Reply
  -- the events that are left, and the turns that the others gave to the kernel
  pub left : List Event
  pub turns : List ℕ

abbrev pub turns_before : {S B : Type 0} → List ℕ → Called S B → Called S B
turns_before turns c = record { host = c.host; reply = c.reply; left = c.left; turns = turns ++ c.turns }

-- an event may answer the request; else the next is fed to what it leaves
abbrev pub answered_by : {S B : Type 0}
    → Option Reply → Host S B → List ℕ → List Event → (Host S B → Called S B) → Called S B
answered_by (Some r) h turns es again = record { host = h; reply = Some r; left = es; turns = turns }
answered_by None h turns es again = turns_before turns (again h)

abbrev pub called : {S B : Type 0} → Machine S B → (S → Outcome) → Host S B → Request → List Event → Called S B
called m outcome h q [] = record { host = h; reply = None; left = []; turns = [] }
called m outcome h q (e ∷ es) =
    answered_by (event m outcome (record { host = h; pending = Some q }) e).reply
    (event m outcome (record { host = h; pending = Some q }) e).attending.host
    (turned m h e) es (λ g. called m outcome g q es)

-- once the events are used up, every request is answered OutOfTurns
abbrev pub reply_or : Option Reply → Reply
reply_or (Some r) = r
reply_or None = Out_of_turns

-- what a list of requests is answered, each put when the one before it was answered
abbrev pub answers_to : {S B : Type 0} → Machine S B → (S → Outcome) → Host S B → List Request → List Event → List Reply
answers_to m outcome h [] es = []
answers_to m outcome h (q ∷ qs) es =
    reply_or (called m outcome h q es).reply
    ∷ answers_to m outcome (called m outcome h q es).host qs (called m outcome h q es).left

-- Schedules

-- what a schedule gives next to an attending host, and what is left of it; none where it has ended
abbrev pub Schedules : Type 0 → Type 0 → Type 0 → Type 0
Schedules X S B = X → Attending S B → Option (Event × X)

-- the schedule x, asked before each event, gives these events, and y is left of it
abbrev pub Gives : {X S B : Type 0} → Schedules X S B → Machine S B → (S → Outcome)
    → X → Attending S B → List Event → X → Type 0
Gives next m outcome x a [] y = x ≡ y
Gives {X} next m outcome x a (e ∷ es) y =
    (rest : X) × ((next x a ≡ Some (e, rest)) × Gives next m outcome rest (event m outcome a e).attending es y)

-- a list of events gives itself
abbrev pub listed : {S B : Type 0} → Schedules (List Event) S B
listed [] a = None
listed (e ∷ es) a = Some (e, es)
