-- What words and the default schedule give, as a host stands before each event.
use Rattle.std.specs.Prelude.{◌≡◌, ◌≤◌, ◌+◌, ◌==◌, nat_lt, ℕ, Bool, cond, not, ◌&&◌, ◌||◌, List, [], ◌∷◌, length, Option, Some, None, option_map}
use Rattle.lx_abi.specs.declared.schedule.Event.{Event}
use Rattle.lx_abi.specs.declared.schedule.Event.TheVariants.{Turn, Serve}
use Rattle.lx_abi.specs.declared.schedule.Word.{Word}
use Rattle.lx_abi.specs.declared.schedule.Word.TheVariants as word
use Rattle.pt_schedule.specs.Cycle.{next_able}
use Rattle.pt_schedule.specs.declared.schedule.Schedule.{Schedule}
use Rattle.pt_schedule.specs.Schedules.{Readiness, most_events, next_of, worded}

-- whose turn was last, and how many he has had in a row, Serves aside
abbrev pub Last : Type 0
Last = Option (ℕ × ℕ)

-- with one turn more
abbrev pub with_turn : ℕ → Last → Last
with_turn p None = Some (p, 1)
with_turn p (Some x) = Some (p, cond (x.0 == p) (x.1 + 1) 1)

-- ---- the default schedule

-- a row begins, whose count starts anew
abbrev pub anew : Option ℕ → Last
anew p = option_map (λ q. (q, 1)) p

-- the process that had the last turn, if it is able and had fewer than 1,000 in a row; else the next able one
abbrev pub next_last : Readiness → Last → Last
next_last seen None = anew (next_able seen.able seen.last_pid 0)
next_last seen (Some x) =
    cond (seen.able x.0 && nat_lt x.1 1000) (Some (x.0, x.1 + 1)) (anew (next_able seen.able seen.last_pid x.0))

-- its turn, or the end where none is able
abbrev pub turn_then : Last → (Last → List Event) → List Event
turn_then None next = []
turn_then (Some x) next = Turn x.0 ∷ next (Some x)

abbrev pub defaulted : Last → List Readiness → List Event
defaulted last [] = []
defaulted last (seen ∷ more) =
    cond seen.ready (Serve ∷ defaulted last more) (turn_then (next_last seen last) (λ l. defaulted l more))

-- ---- words

-- Serves while a request is ready, and then what comes next
abbrev pub serves_then : (List Readiness → List Event) → List Readiness → List Event
serves_then next [] = []
serves_then next (seen ∷ more) = cond seen.ready (Serve ∷ serves_then next more) (next (seen ∷ more))

-- a call of p has left Finished, where its last turn began there; or p isn't able
abbrev pub has_returned : ℕ → Readiness → Readiness → Bool
has_returned p before seen = (before.finished p && not (seen.finished p)) || not (seen.able p)

-- Serves while a request is ready, and turns of p with Serves behind each, until a call has returned; its last turn
-- was made where the host stood as `before`
abbrev pub turns_until : ℕ → Readiness → Last → (Last → List Readiness → List Event) → List Readiness → List Event
turns_until p before last next [] = []
turns_until p before last next (seen ∷ more) =
    cond seen.ready (Serve ∷ turns_until p before last next more)
    (cond (has_returned p before seen) (next last (seen ∷ more))
    (Turn p ∷ turns_until p seen (with_turn p last) next more))

-- `p`: a turn, then Serves while a request is ready; `-p`: a turn alone; `s`: a Serve; `p.`: as `p`, at least once,
-- until a call has returned; after the words the default schedule
abbrev pub said : List Word → Last → List Readiness → List Event
said [] last sights = defaulted last sights
said (w ∷ ws) last [] = []
said (word.Turn p ∷ ws) last (seen ∷ more) = Turn p ∷ serves_then (said ws (with_turn p last)) more
said (word.TurnAlone p ∷ ws) last (seen ∷ more) = Turn p ∷ said ws (with_turn p last) more
said (word.Serve ∷ ws) last (seen ∷ more) = Serve ∷ said ws last more
said (word.UntilReturn p ∷ ws) last (seen ∷ more) = Turn p ∷ turns_until p seen (with_turn p last) (said ws) more

-- ---- the law

-- the events that a schedule gives to a host that stands so before them, one after the other
abbrev pub first_event : Option Event → List Event → List Event
first_event None es = []
first_event (Some e) es = e ∷ es

abbrev pub given_along : Schedule → List Readiness → List Event
given_along s [] = []
given_along s (seen ∷ more) = first_event (next_of s seen).event (given_along (next_of s seen).schedule more)

-- within its limit a schedule gives exactly these, with Serves before the first word
abbrev pub WordsAreSaid : Type 0
WordsAreSaid = (ws : List Word) (limit : ℕ) (sights : List Readiness) →
    length sights ≤ limit → length sights ≤ most_events →
    given_along (worded ws limit) sights ≡ serves_then (said ws None) sights
