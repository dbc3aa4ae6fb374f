-- The world as a host that attends to the tracer's requests, and the replies that are its own.
use Rattle.std.specs.Prelude.{◌≡◌, ℕ, Bool, true, false, cond, List, [], ◌∷◌, ◌++◌, map, Some, None}
use Rattle.std.specs.Option.{option_to_list}
use Rattle.lx_abi.specs.declared.outcome.Outcome.{Outcome}
use Rattle.lx_abi.specs.declared.ptrace.Reply.{Reply}
use Rattle.lx_abi.specs.declared.ptrace.Reply.TheVariants.{Done as Agreed, OutOfTurns as Out_of_turns}
use Rattle.lx_abi.specs.declared.ptrace.Request.{Request}
use Rattle.lx_abi.specs.declared.schedule.Event.{Event}
use Rattle.lx_model.specs.Machine.{Machine, IsMachine}
use Rattle.lx_model.specs.Kernel.{Script}
use Rattle.pt_model.specs.Ptrace.{Host, is_there}
use Rattle.pt_model.specs.Parts.{Options, Part}
use Rattle.pt_model.specs.Tracer.{Tracer, Over, Turns_over, Faulted, request, next, first_tracer}
use Rattle.pt_model.specs.World.{World, met, happens, world_run, turns_of, effective, first_world}
use Rattle.pt_model.specs.Attending.{Attending, event, turned, Called, called, reply_or, answers_to, Schedules, Gives, listed}
use Rattle.pt_model.specs.View.{view, traced, parts}
use Rattle.pt_model.specs.Headline.{IsTold, IsTexts, traced_run, plain_run, Headline}
use Rattle.pt_model.specs.Replies.{told_by, reply_to, replies, admits}

-- The world is the attending host with the tracer's request pending

abbrev pub attends : {S B : Type 0} → Options → World S B → Attending S B
attends o w = record { host = w.host; pending = request o w.tracer.focus }

-- event by event, while something is asked
abbrev pub WorldsAttend : Type 0 → Type 0 → Type 0
WorldsAttend S B =
    (m : Machine S B) (outcome : S → Outcome) (o : Options) (script : Script) (w : World S B) (e : Event) →
    is_there (request o w.tracer.focus) ≡ true →
    ((happens m outcome o script w e).host ≡ (event m outcome (attends o w) e).attending.host)
    × (reply_to m outcome w (request o w.tracer.focus) e ≡ (event m outcome (attends o w) e).reply)
    × (turns_of m w (request o w.tracer.focus) e ≡ turned m w.host e)

-- and call by call: a run is a call of the host with the tracer's request, the reply to the tracer, and the
-- run of the events that are left
pub record IsCall {S B : Type 0} (m : Machine S B) (outcome : S → Outcome) (o : Options) (script : Script)
    (w : World S B) (events : List Event) (c : Called S B) (v : World S B) : Type 0 where
  pub ran : world_run m outcome o script w events ≡ world_run m outcome o script v c.left
  pub replied : replies m outcome o script w events ≡ option_to_list c.reply ++ replies m outcome o script v c.left
  pub turned : effective m outcome o script w events ≡ c.turns ++ effective m outcome o script v c.left

abbrev pub WorldsCall : Type 0 → Type 0 → Type 0
WorldsCall S B =
    (m : Machine S B) (outcome : S → Outcome) (o : Options) (script : Script) (w : World S B)
    (q : Request) (events : List Event) →
    request o w.tracer.focus ≡ Some q →
    let c : Called S B = called m outcome w.host q events in
    IsCall m outcome o script w events c (met o script w w.tracer.focus c.host c.reply)

-- lists of events one after the other
abbrev pub RunsAppend : Type 0 → Type 0 → Type 0
RunsAppend S B =
    (m : Machine S B) (outcome : S → Outcome) (o : Options) (script : Script) (w : World S B) (es fs : List Event) →
    let v : World S B = world_run m outcome o script w es in
    (world_run m outcome o script w (es ++ fs) ≡ world_run m outcome o script v fs)
    × (replies m outcome o script w (es ++ fs) ≡ replies m outcome o script w es ++ replies m outcome o script v fs)
    × (effective m outcome o script w (es ++ fs)
    ≡ effective m outcome o script w es ++ effective m outcome o script v fs)

-- once nothing is asked, nothing happens
abbrev pub OverIsForGood : Type 0 → Type 0 → Type 0
OverIsForGood S B =
    (m : Machine S B) (outcome : S → Outcome) (o : Options) (script : Script) (w : World S B) (es : List Event) →
    request o w.tracer.focus ≡ None →
    (world_run m outcome o script w es ≡ w)
    × (replies m outcome o script w es ≡ [])
    × (effective m outcome o script w es ≡ [])

-- a list of events, as a schedule, gives itself from its head
abbrev pub ListsGiveThemselves : Type 0 → Type 0 → Type 0
ListsGiveThemselves S B = (m : Machine S B) (outcome : S → Outcome) (a : Attending S B) (es left : List Event) →
    Gives listed m outcome (es ++ left) a es left

-- these replies were given by the first of the events
pub record Used {S B : Type 0} (m : Machine S B) (outcome : S → Outcome) (o : Options) (script : Script)
    (w : World S B) (events : List Event) (rs : List Reply) : Type 0 where
  pub used : List Event
  pub unused : List Event
  pub split : events ≡ used ++ unused
  pub replied : replies m outcome o script w used ≡ rs

-- the first replies are those of the first events: each gives at most one
abbrev pub EventsOfReplies : Type 0 → Type 0 → Type 0
EventsOfReplies S B =
    (m : Machine S B) (outcome : S → Outcome) (o : Options) (script : Script) (w : World S B)
    (events : List Event) (rs more : List Reply) →
    replies m outcome o script w events ≡ rs ++ more → Used m outcome o script w events rs

-- Own replies

-- once the events are used up, what is asked is answered OutOfTurns
abbrev pub out_of_turns_if : Bool → List Reply
out_of_turns_if b = cond b (Out_of_turns ∷ []) []

abbrev pub world_replies : {S B : Type 0} → Machine S B → (S → Outcome) → Options → Script
    → World S B → List Event → List Reply
world_replies m outcome o script w events =
    replies m outcome o script w events
    ++ out_of_turns_if (is_there (request o (world_run m outcome o script w events).tracer.focus))

-- replies that are the host's own, for a beginning and a list of events
pub record IsOwn {S B : Type 0} (m : Machine S B) (outcome : S → Outcome) (o : Options) (script : Script)
    (s : S) (b : B) (events : List Event) (rs : List Reply) : Type 0 where
  pub more : List Reply
  pub begins : rs ++ more ≡ world_replies m outcome o script (first_world s b) events

-- A talk of a tracer with a host in memory: each request is the tracer's, and each reply that of a call
abbrev pub Talks : {S B : Type 0} → Machine S B → (S → Outcome) → Options → Script
    → Tracer → Host S B → List Event → List (Request × Reply) → Type 0
Talks m outcome o script t h es [] = Unit {0}
Talks m outcome o script t h es (x ∷ xs) =
    (request o t.focus ≡ Some x.0)
    × (x.1 ≡ reply_or (called m outcome h x.0 es).reply)
    × Talks m outcome o script
    (next o script t x.1).tracer (called m outcome h x.0 es).host (called m outcome h x.0 es).left xs

-- they are what its requests, as a list, are answered
abbrev pub TalksAreAnswers : Type 0 → Type 0 → Type 0
TalksAreAnswers S B =
    (m : Machine S B) (outcome : S → Outcome) (o : Options) (script : Script) (t : Tracer) (h : Host S B)
    (events : List Event) (xs : List (Request × Reply)) →
    Talks m outcome o script t h events xs → map (λ x. x.1) xs ≡ answers_to m outcome h (map (λ x. x.0) xs) events

-- and they are its own
abbrev pub TalksAreOwn : Type 0 → Type 0 → Type 0
TalksAreOwn S B =
    (m : Machine S B) (outcome : S → Outcome) (o : Options) (script : Script) (s : S) (b : B)
    (events : List Event) (xs : List (Request × Reply)) →
    Talks m outcome o script first_tracer (first_world s b).host events xs →
    IsOwn m outcome o script s b events (map (λ x. x.1) xs)

-- A call over a schedule: these events are what it gave until the request was answered or it ended
pub record CallsOver {X S B : Type 0} (choose : Schedules X S B) (m : Machine S B) (outcome : S → Outcome) (x : X)
    (h : Host S B) (q : Request) (fed : List Event) (r : Reply) (y : X) (g : Host S B) : Type 0 where
  pub gives : Gives choose m outcome x (record { host = h; pending = Some q }) fed y
  pub host : (called m outcome h q fed).host ≡ g
  pub left : (called m outcome h q fed).left ≡ []
  pub reply : r ≡ reply_or (called m outcome h q fed).reply
  pub ended : (called m outcome h q fed).reply ≡ None → choose y (record { host = g; pending = Some q }) ≡ None

-- a talk over a schedule, which gave these events in all
abbrev pub TalksOver : {X S B : Type 0} → Schedules X S B → Machine S B → (S → Outcome) → Options → Script
    → Tracer → X → Host S B → List Event → List (Request × Reply) → Type 0
TalksOver choose m outcome o script t x h events [] = events ≡ []
TalksOver {X} {S} {B} choose m outcome o script t x h events (e ∷ xs) =
    (fed : List Event) × ((rest : List Event) × ((y : X) × ((g : Host S B) × (
    (events ≡ fed ++ rest)
    × (request o t.focus ≡ Some e.0)
    × CallsOver choose m outcome x h e.0 fed e.1 y g
    × TalksOver choose m outcome o script (next o script t e.1).tracer y g rest xs))))

-- is one over that list of events
abbrev pub SchedulesAreLists : Type 0 → Type 0 → Type 0 → Type 0
SchedulesAreLists X S B =
    (choose : Schedules X S B) (m : Machine S B) (outcome : S → Outcome) (o : Options) (script : Script)
    (t : Tracer) (x : X) (h : Host S B) (events : List Event) (xs : List (Request × Reply)) →
    TalksOver choose m outcome o script t x h events xs → Talks m outcome o script t h events xs

-- OutOfTurns ends the tracer, and shows nothing
abbrev pub OutOfTurnsShowsNothing : Type 0
OutOfTurnsShowsNothing = (o : Options) (script : Script) (t : Tracer) → is_there (request o t.focus) ≡ true →
    ((next o script t Out_of_turns).printed ≡ []) × ((next o script t Out_of_turns).tracer.focus ≡ Turns_over)

-- What own replies say: they were given by the first of the events, and what the tracer made of them is what
-- the world did by then.
pub record OwnRun {S B : Type 0} (m : Machine S B) (outcome : S → Outcome) (o : Options) (script : Script)
    (s : S) (b : B) (events : List Event) (rs : List Reply) : Type 0 where
  pub used : List Event
  pub unused : List Event
  pub split : events ≡ used ++ unused
  pub headline : Headline outcome o (traced_run m outcome o script s b used) (plain_run m outcome o script s b used)
  pub shown : (told_by o script (Agreed ∷ rs)).printed ≡ (traced_run m outcome o script s b used).printed
  -- the tracer is whole where the world is
  pub whole : (x : Outcome) → (told_by o script (Agreed ∷ rs)).tracer.focus ≡ Over x →
      (traced_run m outcome o script s b used).tracer.focus ≡ Over x
  -- it is out of turns only where the events were used up before the outcome was asked for and answered
  pub used_up : (told_by o script (Agreed ∷ rs)).tracer.focus ≡ Turns_over →
      (unused ≡ []) × (is_there (request o (traced_run m outcome o script s b used).tracer.focus) ≡ true)
  pub admitted : (told_by o script (Agreed ∷ rs)).tracer.focus ≡ Faulted → ⊥
  -- once it asks no more, the other events do nothing
  pub done : request o (told_by o script (Agreed ∷ rs)).tracer.focus ≡ None →
      (traced_run m outcome o script s b used ≡ traced_run m outcome o script s b events)
      × (effective m outcome o script (first_world s b) used ≡ effective m outcome o script (first_world s b) events)

abbrev pub OwnRepliesTell : Type 0 → Type 0 → Type 0
OwnRepliesTell S B =
    (m : Machine S B) → IsMachine m → IsTold m →
    (outcome : S → Outcome) (o : Options) → IsTexts o.texts → (script : Script) →
    (s : S) (b : B) (events : List Event) (rs : List Reply) →
    IsOwn m outcome o script s b events rs → OwnRun m outcome o script s b events rs

-- Wherever a host fails, the trace is the beginning of a view of what was done: rs are the replies that came
-- before it failed, and whatever all the events do comes later.
abbrev pub FailuresLeaveAPrefix : Type 0 → Type 0 → Type 0
FailuresLeaveAPrefix S B =
    (m : Machine S B) → IsMachine m → IsTold m →
    (outcome : S → Outcome) (o : Options) → IsTexts o.texts → (script : Script) →
    (s : S) (b : B) (events : List Event) (rs : List Reply) →
    IsOwn m outcome o script s b events rs →
    (lost : ℕ → Bool) × ((later : List Part) × (
    (told_by o script (Agreed ∷ rs)).printed ++ later
    ≡ parts o (view lost (traced o.follow (plain_run m outcome o script s b events).log))))

-- and where it fails by a reply that the tracer doesn't admit, after replies that are its own
abbrev pub FaultsLeaveAPrefix : Type 0 → Type 0 → Type 0
FaultsLeaveAPrefix S B =
    (m : Machine S B) → IsMachine m → IsTold m →
    (outcome : S → Outcome) (o : Options) → IsTexts o.texts → (script : Script) →
    (s : S) (b : B) (events : List Event) (rs more : List Reply) (bad : Reply) →
    IsOwn m outcome o script s b events rs → admits o (told_by o script (Agreed ∷ rs)).tracer bad ≡ false →
    (lost : ℕ → Bool) × ((later : List Part) × (
    (told_by o script (Agreed ∷ (rs ++ bad ∷ more))).printed ++ later
    ≡ parts o (view lost (traced o.follow (plain_run m outcome o script s b events).log))))
