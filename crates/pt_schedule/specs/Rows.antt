-- Turns of one process that come next, as long as each leaves it where it runs instructions and no request is ready.
use Rattle.std.specs.Prelude.{◌≡◌, ℕ, zero, suc, ◌-◌, ◌<◌, ◌==◌, min, Bool, true, false, cond, not, ◌&&◌, List, [], ◌∷◌, Option, Some, None}
use Rattle.lx_abi.specs.declared.schedule.Event.TheVariants.{Turn}
use Rattle.lx_abi.specs.declared.schedule.Word.{Word}
use Rattle.pt_schedule.specs.declared.schedule.Order.{Order}
use Rattle.pt_schedule.specs.declared.schedule.Order.TheVariants as order
use Rattle.pt_schedule.specs.declared.schedule.Schedule.{Schedule}
use Rattle.pt_schedule.specs.declared.schedule.TurnRun.{TurnRun}
use Rattle.pt_schedule.specs.declared.worded.Returning.{Returning}
use Rattle.pt_schedule.specs.declared.worded.Row.{Row}
use Rattle.pt_schedule.specs.declared.worded.Worded.{Worded}
use Rattle.pt_schedule.specs.Schedules.{Readiness, next_of}

-- What is told

-- by the default schedule, where no word is left and requests are served: the turns that its row still has
abbrev pub by_row : Bool → ℕ → Row → List Word → Option TurnRun
by_row serving left r [] = cond serving (Some (record { pid = r.pid; turns = min r.left left })) None
by_row serving left r (w ∷ ws) = None

-- by a word `p.` whose last turn did not begin at the end of a call: all
abbrev pub by_return : ℕ → Row → Returning → Option TurnRun
by_return left r t = cond ((t.pid == r.pid) && not t.finished) (Some (record { pid = r.pid; turns = left })) None

abbrev pub by_either : Worded → Row → Option Returning → Option TurnRun
by_either w r None = by_row w.serving w.left r w.words
by_either w r (Some t) = by_return w.left r t

abbrev pub by_last : Worded → Option Row → Option TurnRun
by_last w None = None
by_last w (Some r) = by_either w r w.returning

unfoldable pub run_by : Order → Option TurnRun
run_by (order.Listed l) = None
run_by (order.Worded w) = by_last w w.row

abbrev pub run_of : Schedule → Option TurnRun
run_of s = run_by s.order

-- What is left of the schedule after so many of them

abbrev pub row_after : ℕ → Option Row → Option Row
row_after n None = None
row_after n (Some r) = Some (record r { left = r.left - n })

abbrev pub worded_after : Worded → ℕ → Worded
worded_after w n = record w { row = row_after n w.row; left = w.left - n }

unfoldable pub order_after : Order → ℕ → Order
order_after (order.Listed l) n = order.Listed l
order_after (order.Worded w) n = order.Worded (worded_after w n)

abbrev pub after_turns : Schedule → ℕ → Schedule
after_turns s n = record { order = order_after s.order n }

-- The law

-- the process can have another turn, and nothing else comes before
pub record Continues (seen : Readiness) (p : ℕ) : Type 0 where
  pub waits : seen.ready ≡ false
  pub able : seen.able p ≡ true
  pub within : seen.finished p ≡ false

-- a schedule that tells of turns gives them one by one
pub record GivesRun (s : Schedule) (r : TurnRun) : Type 0 where
  pub next : (seen : Readiness) → Continues seen r.pid
      → next_of s seen ≡ record { event = Some (Turn r.pid); schedule = after_turns s 1 }
  pub rest : run_of (after_turns s 1) ≡ Some (record { pid = r.pid; turns = r.turns - 1 })

abbrev pub RunsAreTurns : Type 0
RunsAreTurns = (s : Schedule) (r : TurnRun) → run_of s ≡ Some r → 0 < r.turns → GivesRun s r
