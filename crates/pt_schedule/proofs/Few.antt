-- How many events a schedule gives.
use Rattle.std.proofs.Common.{◌≡◌, ℕ, zero, suc, ◌+◌, ◌-◌, ◌<◌, ◌≤◌, Bool, true, false, cond, not, ◌&&◌, eqb, List, [], ◌∷◌, Option, Some, None, refl, sym, ap, ◌∙◌, arith, inl, inr}
use Rattle.std.specs.Prelude.{min, nat_lt}
use Rattle.std.proofs.lemmas.Bool.{eqb-false, ne_eqb}
use Rattle.lx_abi.specs.declared.schedule.Event.{Event}
use Rattle.lx_abi.specs.declared.schedule.Word.{Word}
use Rattle.lx_abi.specs.declared.schedule.Word.TheVariants as word
use Rattle.pt_schedule.specs.declared.worded.Row.{Row}
use Rattle.pt_schedule.specs.declared.worded.Returning.{Returning}
use Rattle.pt_schedule.specs.declared.worded.Worded.{Worded}
use Rattle.pt_schedule.specs.declared.schedule.Listed.{Listed}
use Rattle.pt_schedule.specs.declared.schedule.Order.{Order}
use Rattle.pt_schedule.specs.declared.schedule.Order.TheVariants as order
use Rattle.pt_schedule.specs.declared.schedule.Schedule.{Schedule}
use Rattle.pt_schedule.specs.Schedules.{Readiness, Given, turn_with, turn_of, serve_of, end_of, next_row, go_on, by_default, by_word, goes_on, after_serves, next_worded, first_of, next_listed, with_order, next_by, next_of, events_left, most_events}
use Rattle.pt_schedule.specs.Cycle.{next_able}
use Rattle.pt_schedule.specs.Few.{EventsAreFew, FirstLeft, ListsGiveTheirEvents}

-- what is given of so many events leaves one less
abbrev Few : ℕ → Given Worded → Type 0
Few n g = (e : Event) → g.event ≡ Some e → g.schedule.left + 1 ≡ n

one_less : (n : ℕ) → 0 < n → n - 1 + 1 ≡ n
one_less n lt = omega (arith, lt)

turn_few : (w : Worded) (p left : ℕ) → 0 < w.left → Few w.left (turn_with w p left)
turn_few w p left lt e is = one_less w.left lt

serve_few : (w : Worded) → 0 < w.left → Few w.left (serve_of w)
serve_few w lt e is = one_less w.left lt

end_few : (w : Worded) (n : ℕ) → Few n (end_of w)
end_few w n e is = absurd (cc is)

row_few : (w : Worded) (next : Option ℕ) → 0 < w.left → Few w.left (next_row w next)
row_few w None lt = end_few w w.left
row_few w (Some p) lt = turn_few w p 999 lt

pick_few : (n : ℕ) (b : Bool) (x y : Given Worded) → (b ≡ true → Few n x) → (b ≡ false → Few n y) → Few n (cond b x y)
pick_few n true x y f g = f refl
pick_few n false x y f g = g refl

go_few : (w : Worded) (seen : Readiness) (row : Option Row) → 0 < w.left → Few w.left (go_on w seen row)
go_few w seen None lt = row_few w (next_able seen.able seen.last_pid 0) lt
go_few w seen (Some r) lt = pick_few w.left (seen.able r.pid && nat_lt 0 r.left) _ _ (λ e. turn_few w r.pid (r.left - 1) lt) (λ e. row_few w (next_able seen.able seen.last_pid r.pid) lt)

default_few : (w : Worded) (seen : Readiness) → 0 < w.left → Few w.left (by_default w seen)
default_few w seen lt = pick_few w.left seen.ready _ _ (λ e. serve_few w lt) (λ e. go_few w seen w.row lt)

word_few : (w : Worded) (seen : Readiness) (words : List Word) → 0 < w.left → Few w.left (by_word w seen words)
word_few w seen [] lt = default_few (record w { serving = true; returning = None }) seen lt
word_few w seen (word.Turn p ∷ ws) lt = λ e is. one_less w.left lt
word_few w seen (word.TurnAlone p ∷ ws) lt = λ e is. one_less w.left lt
word_few w seen (word.Serve ∷ ws) lt = λ e is. one_less w.left lt
word_few w seen (word.UntilReturn p ∷ ws) lt = λ e is. one_less w.left lt

after_few : (w : Worded) (seen : Readiness) (r : Option Returning) → 0 < w.left → Few w.left (after_serves w seen r)
after_few w seen None lt = word_few w seen w.words lt
after_few w seen (Some r) lt = pick_few w.left (goes_on seen r) _ _ (λ e x is. one_less w.left lt) (λ e. word_few w seen w.words lt)

serves_few : (w : Worded) (seen : Readiness) → 0 < w.left → Few w.left (cond (w.serving && seen.ready) (serve_of w) (after_serves w seen w.returning))
serves_few w seen lt = pick_few w.left (w.serving && seen.ready) _ _ (λ e. serve_few w lt) (λ e. after_few w seen w.returning lt)

some_left : (n : ℕ) → eqb n 0 ≡ false → 0 < n
some_left n e = omega (arith, eqb-false n 0 e)

worded_few : (w : Worded) (seen : Readiness) → Few w.left (next_worded w seen)
worded_few w seen = pick_few w.left (eqb w.left 0) _ _ (λ e. end_few w w.left) (λ e. serves_few w seen (some_left w.left e))

of_list : (events : List Event) (left : ℕ) (e : Event) → 0 < left → (first_of events left).event ≡ Some e → (first_of events left).schedule.left + 1 ≡ left
of_list [] left e lt is = absurd (cc is)
of_list (x ∷ es) left e lt is = one_less left lt

listed_by : (b : Bool) (l : Listed) (e : Event) → (b ≡ false → 0 < l.left) → (cond b (record { event = None; schedule = l }) (first_of l.events l.left)).event ≡ Some e
    → (cond b (record { event = None; schedule = l }) (first_of l.events l.left)).schedule.left + 1 ≡ l.left
listed_by true l e lt is = absurd (cc is)
listed_by false l e lt is = of_list l.events l.left e (lt refl) is

by_order : (o : Order) (seen : Readiness) (e : Event) → (next_by o seen).event ≡ Some e → events_left (next_by o seen).schedule + 1 ≡ events_left (record { order = o })
unfolding next_by
by_order (order.Listed l) seen e is = listed_by (eqb l.left 0) l e (some_left l.left) is
by_order (order.Worded w) seen e is = worded_few w seen e is

pub few : EventsAreFew
few s seen e is = by_order s.order seen e is

pub first_left : FirstLeft
first_left words limit events = record { words_limit = omega arith; words_most = omega arith; list_most = omega arith }

given_first : (b : Bool) (e : Event) (es : List Event) (n : ℕ) → b ≡ false →
    ((cond b (record { event = None; schedule = record { events = e ∷ es; left = suc n } }) (first_of (e ∷ es) (suc n))).event ≡ Some e)
    × ((cond b (record { event = None; schedule = record { events = e ∷ es; left = suc n } }) (first_of (e ∷ es) (suc n))).schedule ≡ record { events = es; left = n })
given_first true e es n is = absurd (cc is)
given_first false e es n is = (refl, ap (λ (k : ℕ). record { events = es; left = k }) (omega arith))

pub lists : ListsGiveTheirEvents
unfolding next_by
lists e es n seen =
    let g = given_first (eqb (suc n) 0) e es n (ne_eqb (suc n) 0 (λ z. absurd (omega (arith, z)))) in
    (g.0, ap (λ (l : Listed). record { order = order.Listed l }) g.1)
