-- Schedules: which event of a host comes next, as the host stands.
use Rattle.std.specs.Prelude.{ℕ, ◌-◌, ◌==◌, nat_lt, min, Bool, true, false, cond, not, ◌&&◌, List, [], ◌∷◌, Option, Some, None, option_map}
use Rattle.lx_abi.specs.Words.{words_of}
use Rattle.lx_abi.specs.declared.schedule.Event.{Event}
use Rattle.lx_abi.specs.declared.schedule.Event.TheVariants.{Turn, Serve}
use Rattle.lx_abi.specs.declared.schedule.Word.{Word}
use Rattle.lx_abi.specs.declared.schedule.Word.TheVariants as word
use Rattle.pt_schedule.specs.Cycle.{next_able}
use Rattle.pt_schedule.specs.Turns.{from_turn, turns_from}
use Rattle.pt_schedule.specs.declared.worded.Row.{Row}
use Rattle.pt_schedule.specs.declared.worded.Returning.{Returning}
use Rattle.pt_schedule.specs.declared.schedule.Listed.{Listed}
use Rattle.pt_schedule.specs.declared.worded.Worded.{Worded}
use Rattle.pt_schedule.specs.declared.schedule.Order.{Order}
use Rattle.pt_schedule.specs.declared.schedule.Order.TheVariants as order
use Rattle.pt_schedule.specs.declared.schedule.Schedule.{Schedule}

-- what a schedule sees of a host
pub record Readiness : Type 0 where
  -- a request is pending, and would be answered
  pub ready : Bool
  -- a turn of the process would run an instruction or change its mode
  pub able : ℕ → Bool
  -- pids are 1 to this one
  pub last_pid : ℕ
  -- the process stands where its call is finished
  pub finished : ℕ → Bool

-- no schedule gives more events
abbrev pub most_events : ℕ
most_events = 0x80_0000_0000

-- so many turns in a row has a process while another is able
abbrev pub most_in_a_row : ℕ
most_in_a_row = 1000

-- A schedule at its beginning: these events, or these words and then the default schedule, so many events at most;
-- requests are served while one is ready before the first word

abbrev pub listed : List Event → Schedule
listed events = record { order = order.Listed (record { events = events; left = most_events }) }

abbrev pub worded : List Word → ℕ → Schedule
worded words limit = record {
  order = order.Worded (record {
    words = words;
    serving = true;
    returning = None;
    row = None;
    left = min limit most_events;
  });
}

-- by the words of a text
abbrev pub scheduled : List ℕ → ℕ → Option Schedule
scheduled text limit = option_map (λ words. worded words limit) (words_of text)

-- What a schedule gives, and what is left of it

pub record Given (S : Type 0) : Type 0 where
  pub event : Option Event
  pub schedule : S

-- Words, and then the default schedule

-- a turn of the process that had the last one is one more of its row
abbrev pub left_in_row : ℕ → Option Row → ℕ
left_in_row p None = most_in_a_row - 1
left_in_row p (Some r) = cond (r.pid == p) (r.left - 1) (most_in_a_row - 1)

abbrev pub turn_with : Worded → ℕ → ℕ → Given Worded
turn_with w p left = record {
  event = Some (Turn p);
  schedule = record w { row = Some (record { pid = p; left = left }); left = w.left - 1 };
}

abbrev pub turn_of : Worded → ℕ → Given Worded
turn_of w p = turn_with w p (left_in_row p w.row)

abbrev pub serve_of : Worded → Given Worded
serve_of w = record { event = Some Serve; schedule = record w { left = w.left - 1 } }

-- it ends for good
abbrev pub end_of : Worded → Given Worded
end_of w = record { event = None; schedule = record w { left = 0 } }

-- the default schedule: a new row of the next able process
abbrev pub next_row : Worded → Option ℕ → Given Worded
next_row w None = end_of w
next_row w (Some p) = turn_with w p (most_in_a_row - 1)

-- the row goes on where its process is able and had fewer turns than a row may have
abbrev pub go_on : Worded → Readiness → Option Row → Given Worded
go_on w seen None = next_row w (next_able seen.able seen.last_pid 0)
go_on w seen (Some r) =
    cond (seen.able r.pid && nat_lt 0 r.left) (turn_with w r.pid (r.left - 1))
    (next_row w (next_able seen.able seen.last_pid r.pid))

abbrev pub by_default : Worded → Readiness → Given Worded
by_default w seen = cond seen.ready (serve_of w) (go_on w seen w.row)

-- `p`: a turn, then requests are served while one is ready; `-p`: a turn alone; `s`: a request is served;
-- `p.`: as `p`, until a call of p has left Finished, or p isn't able
abbrev pub by_word : Worded → Readiness → List Word → Given Worded
by_word w seen [] = by_default (record w { serving = true; returning = None }) seen
by_word w seen (word.Turn p ∷ ws) = turn_of (record w { words = ws; serving = true; returning = None }) p
by_word w seen (word.TurnAlone p ∷ ws) = turn_of (record w { words = ws; serving = false; returning = None }) p
by_word w seen (word.Serve ∷ ws) = serve_of (record w { words = ws; serving = false; returning = None })
by_word w seen (word.UntilReturn p ∷ ws) =
    turn_of (record w {
      words = ws;
      serving = true;
      returning = Some (record { pid = p; finished = seen.finished p });
    }) p

-- `p.` goes on: p is able, and its last turn has not left Finished
abbrev pub goes_on : Readiness → Returning → Bool
goes_on seen r = seen.able r.pid && not (r.finished && not (seen.finished r.pid))

abbrev pub after_serves : Worded → Readiness → Option Returning → Given Worded
after_serves w seen None = by_word w seen w.words
after_serves w seen (Some r) =
    cond (goes_on seen r)
    (turn_of (record w { returning = Some (record r { finished = seen.finished r.pid }) }) r.pid)
    (by_word w seen w.words)

abbrev pub next_worded : Worded → Readiness → Given Worded
next_worded w seen =
    cond (w.left == 0) (end_of w)
    (cond (w.serving && seen.ready) (serve_of w) (after_serves w seen w.returning))

-- A list of events gives these

abbrev pub first_of : List Event → ℕ → Given Listed
first_of [] left = record { event = None; schedule = record { events = []; left = 0 } }
first_of (e ∷ es) left = record { event = Some e; schedule = record { events = es; left = left - 1 } }

abbrev pub next_listed : Listed → Given Listed
next_listed l = cond (l.left == 0) (record { event = None; schedule = l }) (first_of l.events l.left)

-- Both

abbrev pub with_order : {S : Type 0} → Given S → (S → Order) → Given Schedule
with_order g f = record { event = g.event; schedule = record { order = f g.schedule } }

unfoldable pub next_by : Order → Readiness → Given Schedule
next_by (order.Listed l) seen = with_order (next_listed l) (λ x. order.Listed x)
next_by (order.Worded w) seen = with_order (next_worded w seen) (λ x. order.Worded x)

-- the next event of a schedule, as the host stands
abbrev pub next_of : Schedule → Readiness → Given Schedule
next_of s seen = next_by s.order seen

-- how many events a schedule may still give
abbrev pub left_in : Order → ℕ
left_in (order.Listed l) = l.left
left_in (order.Worded w) = w.left

abbrev pub events_left : Schedule → ℕ
events_left s = left_in s.order

-- Over a kernel without a tracer a word `s`, or the event of a Serve, is none, and counts for nothing

unfoldable pub unserved : Order → Order
unserved (order.Listed l) = order.Listed (record l { events = turns_from l.events })
unserved (order.Worded w) = order.Worded (record w { words = from_turn w.words })

abbrev pub turn_given : Option Event → Option ℕ
turn_given None = None
turn_given (Some (Turn p)) = Some p
turn_given (Some Serve) = None

pub record GivenTurn : Type 0 where
  pub pid : Option ℕ
  pub schedule : Schedule

abbrev pub given_turn : Given Schedule → GivenTurn
given_turn g = record { pid = turn_given g.event; schedule = g.schedule }

-- the pid of the next turn
abbrev pub next_turn_of : Schedule → Readiness → GivenTurn
next_turn_of s seen = given_turn (next_by (unserved s.order) seen)
