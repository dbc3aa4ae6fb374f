-- A schedule that tells of turns gives them one by one.
use Rattle.std.proofs.Common.{◌≡◌, ℕ, ◌-◌, ◌<◌, Bool, true, false, cond, not, List, [], ◌∷◌, Option, Some, None, refl, sym, ap, ap₂, subst, ◌∙◌, arith, ◌+◌, ◌≤◌}
use Rattle.std.specs.Prelude.{◌==◌, ◌&&◌, nat_lt, min}
use Rattle.std.proofs.lemmas.Bool.Decides.{nat_tests}
use Rattle.lx_abi.specs.declared.schedule.Event.TheVariants.{Turn}
use Rattle.lx_abi.specs.declared.schedule.Word.{Word}
use Rattle.pt_schedule.specs.declared.worded.Row.{Row}
use Rattle.pt_schedule.specs.declared.worded.Returning.{Returning}
use Rattle.pt_schedule.specs.declared.worded.Worded.{Worded}
use Rattle.pt_schedule.specs.declared.schedule.Order.{Order}
use Rattle.pt_schedule.specs.declared.schedule.Order.TheVariants as order
use Rattle.pt_schedule.specs.declared.schedule.Schedule.{Schedule}
use Rattle.pt_schedule.specs.declared.schedule.TurnRun.{TurnRun}
use Rattle.pt_schedule.specs.Cycle.{next_able}
use Rattle.pt_schedule.specs.Schedules.{Readiness, Given, turn_with, turn_of, next_row, by_word, serve_of, end_of, go_on, after_serves, next_worded, next_by, next_of, left_in, events_left}
use Rattle.pt_schedule.specs.Rows.{by_row, by_return, by_either, by_last, run_by, run_of, row_after, worded_after, order_after, after_turns, Continues, GivesRun, RunsAreTurns}

abbrev worded_by : List Word → Bool → Option Returning → Option Row → ℕ → Worded
worded_by words serving returning row left = record { words = words; serving = serving; returning = returning; row = row; left = left }

abbrev gives : Worded → ℕ → Given Worded
gives w p = record { event = Some (Turn p); schedule = worded_after w 1 }

record GivesIn (w : Worded) (p n : ℕ) : Type 0 where
  next : (seen : Readiness) → Continues seen p → next_worded w seen ≡ gives w p
  rest : by_last (worded_after w 1) (worded_after w 1).row ≡ Some (record { pid = p; turns = n - 1 })

some_left : (n : ℕ) → 0 < n → (n == 0) ≡ false
some_left n h = grind (arith, nat_tests)

least_left : (x n : ℕ) → 0 < min x n → (n == 0) ≡ false
least_left x n h = grind (arith, nat_tests)

least_more : (x n : ℕ) → 0 < min x n → nat_lt 0 x ≡ true
least_more x n h = grind (arith, nat_tests)

least_less : (x n : ℕ) → min (x - 1) (n - 1) ≡ min x n - 1
least_less x n = grind (arith, nat_tests)

same_pid : (p q : ℕ) → (p == q) ≡ true → p ≡ q
same_pid p q h = grind (arith, nat_tests)

equal_pid : (p : ℕ) → (p == p) ≡ true
equal_pid p = grind (arith, nat_tests)

-- by the default schedule

abbrev at_row : Row → ℕ → Worded
at_row r left = worded_by [] true None (Some r) left

row_given : (r : Row) (left : ℕ) (seen : Readiness) (z ready able more : Bool) → z ≡ false → ready ≡ false → able ≡ true → more ≡ true →
    cond z (end_of (at_row r left)) (cond (true && ready) (serve_of (at_row r left)) (cond ready (serve_of (at_row r left)) (cond (able && more) (turn_with (at_row r left) r.pid (r.left - 1)) (next_row (at_row r left) (next_able seen.able seen.last_pid r.pid)))))
    ≡ gives (at_row r left) r.pid
row_given r left seen true ready able more e f g k = absurd (cc e)
row_given r left seen false true able more e f g k = absurd (cc f)
row_given r left seen false false false more e f g k = absurd (cc g)
row_given r left seen false false true false e f g k = absurd (cc k)
row_given r left seen false false true true e f g k = refl

of_row : (r : Row) (left : ℕ) → 0 < min r.left left → GivesIn (at_row r left) r.pid (min r.left left)
of_row r left h = record {
  next = λ seen c. row_given r left seen (left == 0) seen.ready (seen.able r.pid) (nat_lt 0 r.left) (least_left r.left left h) c.waits c.able (least_more r.left left h);
  rest = ap (λ n. Some (record { pid = r.pid; turns = n })) (least_less r.left left);
}

-- by a word `p.`

abbrev at_return : List Word → Bool → Returning → Row → ℕ → Worded
at_return words serving t r left = worded_by words serving (Some t) (Some r) left

-- its turn, where its last one began at the end of a call or not
abbrev again : List Word → Bool → Returning → Row → ℕ → Bool → ℕ → Given Worded
again words serving t r left finished n = record { event = Some (Turn t.pid); schedule = worded_by words serving (Some (record t { finished = finished })) (Some (record { pid = t.pid; left = n })) (left - 1) }

return_given : (words : List Word) (serving : Bool) (t : Returning) (r : Row) (left : ℕ) (seen : Readiness) (z ready able began ends same : Bool) →
    z ≡ false → ready ≡ false → able ≡ true → began ≡ false → same ≡ true →
    cond z (end_of (at_return words serving t r left)) (cond (serving && ready) (serve_of (at_return words serving t r left)) (cond (able && not (began && not ends)) (again words serving t r left ends (cond same (r.left - 1) 999)) (by_word (at_return words serving t r left) seen words)))
    ≡ again words serving t r left ends (r.left - 1)
return_given words serving t r left seen true ready able began ends same e f g k l = absurd (cc e)
return_given words serving t r left seen false true able began ends same e f g k l = absurd (cc f)
return_given words serving t r left seen false false false began ends same e f g k l = absurd (cc g)
return_given words serving t r left seen false false true true ends same e f g k l = absurd (cc k)
return_given words serving t r left seen false false true false ends false e f g k l = absurd (cc l)
return_given words true t r left seen false false true false ends true e f g k l = refl
return_given words false t r left seen false false true false ends true e f g k l = refl

-- that row is the last turn's
kept_again : (words : List Word) (serving : Bool) (t : Returning) (r : Row) (left : ℕ) (finished : Bool) → finished ≡ false → t.finished ≡ false → t.pid ≡ r.pid →
    again words serving t r left finished (r.left - 1) ≡ gives (at_return words serving t r left) r.pid
kept_again words serving t r left finished e f g =
    ap (λ b. again words serving t r left b (r.left - 1)) (e ∙ sym f)
    ∙ ap (λ p. by_pid p) g
  where
    by_pid : ℕ → Given Worded
    by_pid p = record { event = Some (Turn p); schedule = worded_by words serving (Some t) (Some (record { pid = p; left = r.left - 1 })) (left - 1) }

of_return : (words : List Word) (serving : Bool) (t : Returning) (r : Row) (left : ℕ) → 0 < left → (t.pid == r.pid) ≡ true → t.finished ≡ false → GivesIn (at_return words serving t r left) r.pid left
of_return words serving t r left h same fresh =
    let p : t.pid ≡ r.pid = same_pid t.pid r.pid same in
    record {
      next = λ seen c.
          return_given words serving t r left seen (left == 0) seen.ready (seen.able t.pid) t.finished (seen.finished t.pid) (r.pid == t.pid) (some_left left h) c.waits (ap seen.able p ∙ c.able) fresh
          (ap (λ q. q == t.pid) (sym p) ∙ equal_pid t.pid)
          ∙ kept_again words serving t r left (seen.finished t.pid) (ap seen.finished p ∙ c.within) fresh p;
      rest = ap (λ b. cond (b && not t.finished) (Some (record { pid = r.pid; turns = left - 1 })) None) same
          ∙ ap (λ b. cond (true && not b) (Some (record { pid = r.pid; turns = left - 1 })) None) fresh;
    }

-- Both

told_pid : (p n : ℕ) (r : TurnRun) → ◌≡◌ {A = Option TurnRun} (Some (record { pid = p; turns = n })) (Some r) → record { pid = p; turns = n } ≡ r
told_pid p n r e = cc

by_row_gives : (words : List Word) (serving : Bool) (x : Row) (left : ℕ) (r : TurnRun) → by_row serving left x words ≡ Some r → 0 < r.turns → GivesIn (worded_by words serving None (Some x) left) r.pid r.turns
by_row_gives [] true x left r e h =
    let same : record { pid = x.pid; turns = min x.left left } ≡ r = told_pid x.pid (min x.left left) r e in
    subst (λ (y : TurnRun). 0 < y.turns → GivesIn (at_row x left) y.pid y.turns) same (of_row x left) h
by_row_gives [] false x left r e h = absurd (cc e)
by_row_gives (w ∷ ws) serving x left r e h = absurd (cc e)

return_told : (left : ℕ) (x : Row) (same began : Bool) (r : TurnRun) → cond (same && not began) (Some (record { pid = x.pid; turns = left })) None ≡ Some r → (same ≡ true) × ((began ≡ false) × (record { pid = x.pid; turns = left } ≡ r))
return_told left x true true r e = absurd (cc e)
return_told left x true false r e = (refl, (refl, told_pid x.pid left r e))
return_told left x false began r e = absurd (cc e)

by_return_gives : (words : List Word) (serving : Bool) (t : Returning) (x : Row) (left : ℕ) (r : TurnRun) → by_return left x t ≡ Some r → 0 < r.turns → GivesIn (worded_by words serving (Some t) (Some x) left) r.pid r.turns
by_return_gives words serving t x left r e h =
    let it = return_told left x (t.pid == x.pid) t.finished r e in
    subst (λ (y : TurnRun). 0 < y.turns → GivesIn (at_return words serving t x left) y.pid y.turns) it.1.1 (λ more. of_return words serving t x left more it.0 it.1.0) h

either_gives : (words : List Word) (serving : Bool) (returning : Option Returning) (x : Row) (left : ℕ) (r : TurnRun) → by_either (worded_by words serving returning (Some x) left) x returning ≡ Some r → 0 < r.turns → GivesIn (worded_by words serving returning (Some x) left) r.pid r.turns
either_gives words serving None x left r = by_row_gives words serving x left r
either_gives words serving (Some t) x left r = by_return_gives words serving t x left r

last_gives : (words : List Word) (serving : Bool) (returning : Option Returning) (row : Option Row) (left : ℕ) (r : TurnRun) → by_last (worded_by words serving returning row left) row ≡ Some r → 0 < r.turns → GivesIn (worded_by words serving returning row left) r.pid r.turns
last_gives words serving returning None left r e h = absurd (cc e)
last_gives words serving returning (Some x) left r e h = either_gives words serving returning x left r e h

abbrev in_order : Given Worded → Given Schedule
in_order g = record { event = g.event; schedule = record { order = order.Worded g.schedule } }

run_gives : (o : Order) (r : TurnRun) → run_by o ≡ Some r → 0 < r.turns → GivesRun (record { order = o }) r
unfolding run_by order_after next_by
run_gives (order.Listed l) r e h = absurd (cc e)
run_gives (order.Worded w) r e h =
    let it : GivesIn w r.pid r.turns = last_gives w.words w.serving w.returning w.row w.left r e h in
    record { next = λ seen c. ap in_order (it.next seen c); rest = it.rest }

pub runs_are_turns : RunsAreTurns
runs_are_turns s r e h = run_gives s.order r e h

-- So many turns, and more of them

none_of : (n : ℕ) → n - 0 ≡ n
none_of n = omega arith

row_none : (row : Option Row) → row_after 0 row ≡ row
row_none None = refl
row_none (Some r) = ap (λ n. Some (record { pid = r.pid; left = n })) (none_of r.left)

order_none : (o : Order) → order_after o 0 ≡ o
unfolding order_after
order_none (order.Listed l) = refl
order_none (order.Worded w) = ap₂ (λ row left. order.Worded (worded_by w.words w.serving w.returning row left)) (row_none w.row) (none_of w.left)

pub none_after : (s : Schedule) → after_turns s 0 ≡ s
none_after s = ap (λ (o : Order). record { order = o }) (order_none s.order)

less_more : (n a b : ℕ) → n - a - b ≡ n - (a + b)
less_more n a b = omega arith

row_more : (row : Option Row) (a b : ℕ) → row_after b (row_after a row) ≡ row_after (a + b) row
row_more None a b = refl
row_more (Some r) a b = ap (λ n. Some (record { pid = r.pid; left = n })) (less_more r.left a b)

order_more : (o : Order) (a b : ℕ) → order_after (order_after o a) b ≡ order_after o (a + b)
unfolding order_after
order_more (order.Listed l) a b = refl
order_more (order.Worded w) a b = ap₂ (λ row left. order.Worded (worded_by w.words w.serving w.returning row left)) (row_more w.row a b) (less_more w.left a b)

pub more_after : (s : Schedule) (a b : ℕ) → after_turns (after_turns s a) b ≡ after_turns s (a + b)
more_after s a b = ap (λ (o : Order). record { order = o }) (order_more s.order a b)

-- fewer events are left
left_order : (o : Order) (n : ℕ) → left_in (order_after o n) ≤ left_in o
unfolding order_after
left_order (order.Listed l) n = omega arith
left_order (order.Worded w) n = omega arith

pub left_after : (s : Schedule) (n : ℕ) → events_left (after_turns s n) ≤ events_left s
left_after s n = left_order s.order n
