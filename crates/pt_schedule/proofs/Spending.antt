-- A schedule gives fewer events than it has left.
use Rattle.std.proofs.Common.{◌≡◌, ℕ, ◌-◌, ◌<◌, Bool, true, false, cond, List, [], ◌∷◌, Option, Some, None, refl, sym, ap, subst, arith}
use Rattle.std.specs.Prelude.{◌==◌, ◌&&◌, nat_lt}
use Rattle.std.proofs.lemmas.Bool.Decides.{nat_tests}
use Rattle.lx_abi.specs.declared.schedule.Event.{Event}
use Rattle.lx_abi.specs.declared.schedule.Word.{Word}
use Rattle.lx_abi.specs.declared.schedule.Word.TheVariants as word
use Rattle.pt_schedule.specs.declared.worded.Row.{Row}
use Rattle.pt_schedule.specs.declared.worded.Returning.{Returning}
use Rattle.pt_schedule.specs.declared.worded.Worded.{Worded}
use Rattle.pt_schedule.specs.declared.schedule.Listed.{Listed}
use Rattle.pt_schedule.specs.declared.schedule.Order.{Order}
use Rattle.pt_schedule.specs.declared.schedule.Order.TheVariants as order
use Rattle.pt_schedule.specs.declared.schedule.Schedule.{Schedule}
use Rattle.pt_schedule.specs.Cycle.{next_able}
use Rattle.pt_schedule.specs.Schedules.{Readiness, Given, turn_with, turn_of, serve_of, end_of, next_row, go_on, by_default, by_word, goes_on, after_serves, first_of, next_by, next_of, left_in, events_left}

abbrev Spends : ℕ → Given Worded → Type 0
Spends n g = (e : Event) → g.event ≡ Some e → g.schedule.left ≡ n - 1

row_spends : (w : Worded) (p : Option ℕ) → Spends w.left (next_row w p)
row_spends w None e h = absurd (cc h)
row_spends w (Some p) e h = refl

either : (n : ℕ) (b : Bool) (f g : Given Worded) → Spends n f → Spends n g → Spends n (cond b f g)
either n true f g h k = h
either n false f g h k = k

go_spends : (w : Worded) (seen : Readiness) (r : Option Row) → Spends w.left (go_on w seen r)
go_spends w seen None = row_spends w (next_able seen.able seen.last_pid 0)
go_spends w seen (Some r) = either w.left (seen.able r.pid && nat_lt 0 r.left) (turn_with w r.pid (r.left - 1)) (next_row w (next_able seen.able seen.last_pid r.pid)) (λ e h. refl) (row_spends w (next_able seen.able seen.last_pid r.pid))

default_spends : (w : Worded) (seen : Readiness) → Spends w.left (by_default w seen)
default_spends w seen = either w.left seen.ready (serve_of w) (go_on w seen w.row) (λ e h. refl) (go_spends w seen w.row)

word_spends : (w : Worded) (seen : Readiness) (ws : List Word) → Spends w.left (by_word w seen ws)
word_spends w seen [] = default_spends (record w { serving = true; returning = None }) seen
word_spends w seen (word.Turn p ∷ ws) = λ e h. refl
word_spends w seen (word.TurnAlone p ∷ ws) = λ e h. refl
word_spends w seen (word.Serve ∷ ws) = λ e h. refl
word_spends w seen (word.UntilReturn p ∷ ws) = λ e h. refl

after_spends : (w : Worded) (seen : Readiness) (r : Option Returning) → Spends w.left (after_serves w seen r)
after_spends w seen None = word_spends w seen w.words
after_spends w seen (Some r) = either w.left (goes_on seen r) (turn_of (record w { returning = Some (record r { finished = seen.finished r.pid }) }) r.pid) (by_word w seen w.words) (λ e h. refl) (word_spends w seen w.words)

less : (n m : ℕ) → (n == 0) ≡ false → m ≡ n - 1 → m < n
less n m h e = grind (arith, nat_tests)

worded_less : (w : Worded) (seen : Readiness) (e : Event) (b : Bool) → (w.left == 0) ≡ b → (cond b (end_of w) (cond (w.serving && seen.ready) (serve_of w) (after_serves w seen w.returning))).event ≡ Some e →
    (cond b (end_of w) (cond (w.serving && seen.ready) (serve_of w) (after_serves w seen w.returning))).schedule.left < w.left
worded_less w seen e true z h = absurd (cc h)
worded_less w seen e false z h = less w.left _ z (either w.left (w.serving && seen.ready) (serve_of w) (after_serves w seen w.returning) (λ _ _. refl) (after_spends w seen w.returning) e h)

first_less : (es : List Event) (n : ℕ) (e : Event) → (n == 0) ≡ false → (first_of es n).event ≡ Some e → (first_of es n).schedule.left < n
first_less [] n e z h = absurd (cc h)
first_less (x ∷ es) n e z h = less n (n - 1) z refl

listed_less : (l : Listed) (e : Event) (b : Bool) → (l.left == 0) ≡ b → (cond b (record { event = None; schedule = l }) (first_of l.events l.left)).event ≡ Some e → (cond b (record { event = None; schedule = l }) (first_of l.events l.left)).schedule.left < l.left
listed_less l e true z h = absurd (cc h)
listed_less l e false z h = first_less l.events l.left e z h

by_less : (o : Order) (seen : Readiness) (e : Event) → (next_by o seen).event ≡ Some e → left_in (next_by o seen).schedule.order < left_in o
unfolding next_by
by_less (order.Listed l) seen e h = listed_less l e (l.left == 0) refl h
by_less (order.Worded w) seen e h = worded_less w seen e (w.left == 0) refl h

-- an event is one fewer
pub next_less : (s : Schedule) (seen : Readiness) (e : Event) (s' : Schedule) → record { event = Some e; schedule = s' } ≡ next_of s seen → events_left s' < events_left s
next_less s seen e s' h =
    subst (λ (g : Given Schedule). events_left g.schedule < events_left s) (sym h) (by_less s.order seen e (sym (ap (λ (g : Given Schedule). g.event) h)))
