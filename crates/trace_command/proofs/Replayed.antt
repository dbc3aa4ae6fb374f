-- The words of a run's events give these events again.
use Rattle.std.proofs.Common.{◌≡◌, ◌⊎◌, ◌∙◌, ℕ, zero, suc, ◌+◌, ◌-◌, ◌<◌, ◌≤◌, Bool, true, false, cond, List, [], ◌∷◌}
use Rattle.std.proofs.Common.{Option, Some, None, refl, sym, ap, subst, inl, inr, arith}
use Rattle.std.specs.Prelude.{◌==◌, ◌&&◌, nat_lt, min}
use Rattle.std.specs.Option.{option_map}
use Rattle.std.proofs.lemmas.Bool.Decides.{nat_tests}
use Rattle.lx_abi.specs.Scripts.{choice_of}
use Rattle.lx_abi.specs.declared.schedule.Event.{Event}
use Rattle.lx_abi.specs.declared.schedule.Event.TheVariants.{Turn, Serve}
use Rattle.lx_abi.specs.declared.schedule.Word.{Word}
use Rattle.lx_abi.specs.declared.schedule.Word.TheVariants as word
use Rattle.lx_boot.specs.First.{first_shared}
use Rattle.lx_exec.specs.Programs.{booted}
use Rattle.lx_model.specs.Kernel.{Script}
use Rattle.pt_kernel.specs.Seen.{given, next_of_host}
use Rattle.pt_model.specs.Parts.{Options}
use Rattle.pt_schedule.specs.Cycle.{next_able}
use Rattle.pt_schedule.specs.Few.{EventsAreFew}
use Rattle.pt_schedule.specs.Schedules.{Readiness, Given, left_in_row, turn_with, turn_of, serve_of, end_of, goes_on}
use Rattle.pt_schedule.specs.Schedules.{next_row, go_on, by_default, by_word, after_serves, next_worded, next_by}
use Rattle.pt_schedule.specs.Schedules.{next_of, most_events, worded}
use Rattle.pt_schedule.specs.Written.{WordsReadBack}
use Rattle.pt_schedule.specs.declared.schedule.Schedule.{Schedule}
use Rattle.pt_schedule.specs.declared.worded.Returning.{Returning}
use Rattle.pt_schedule.specs.declared.worded.Row.{Row}
use Rattle.pt_schedule.specs.declared.worded.Worded.{Worded}
use Rattle.trace_threads.specs.InTurn.{BeginServed}
use Rattle.trace_command.specs.Replays.{EventsComeAgain, RunsComeAgain}
use Rattle.trace_command.proofs.ByWords.{Allowed, Begins, Fed, Stuck, asked_of, begins, by, comes_again, made_again, of}
use Rattle.trace_command.proofs.ByWords.{row_by, serve_given, to_fed, world_of}
use Rattle.trace_command.proofs.ByWords as linux

-- ---- two rows

-- Both know whose turn was last; the second gives him no more turns in a row than the first.
abbrev Like : Option Row → Option Row → Type 0
Like None None = Unit {0}
Like None (Some r') = ⊥
Like (Some r) None = ⊥
Like (Some r) (Some r') = (r'.pid ≡ r.pid) × ((r'.left ≤ r.left) × (r'.left ≤ 999))

-- ---- what an event makes of their rows

same_test : (a b p : ℕ) → a ≡ b → (a == p) ≡ (b == p)
same_test a b p e = ap (λ n. n == p) e

fewer_left : (p : ℕ) (row row' : Option Row) → Like row row'
    → (left_in_row p row' ≤ left_in_row p row) × (left_in_row p row' ≤ 999)
fewer_left p None None h = (omega arith, omega arith)
fewer_left p None (Some r') h = absurd h
fewer_left p (Some r) None h = absurd h
fewer_left p (Some r) (Some r') h = go (r.pid == p) (r'.pid == p) (same_test r'.pid r.pid p h.0)
  where
    go : (b c : Bool) → c ≡ b → (cond c (r'.left - 1) 999 ≤ cond b (r.left - 1) 999) × (cond c (r'.left - 1) 999 ≤ 999)
    go true true e = (omega (arith, h.1.0), omega (arith, h.1.1))
    go true false e = absurd (cc e)
    go false true e = absurd (cc e)
    go false false e = (omega arith, omega arith)

own_left : (r r' : Row) → Like (Some r) (Some r') → left_in_row r.pid (Some r') ≤ r.left - 1
own_left r r' h = go (r'.pid == r.pid) (grind (arith, nat_tests, h.0))
  where
    go : (b : Bool) → b ≡ true → cond b (r'.left - 1) 999 ≤ r.left - 1
    go true e = omega (arith, h.1.0)
    go false e = absurd (cc e)

-- what is given leaves rows that are alike
abbrev Keeps_like : Option Row → Given Worded → Type 0
Keeps_like row' g = (e : Event) → g.event ≡ Some e → Like g.schedule.row (row_by row' e)

the_event : Event → Option Event → Event
the_event e None = e
the_event e (Some x) = x

one_event : (a b : Event) → Some a ≡ Some b → a ≡ b
unfolding the_event
one_event a b h = ap (the_event a) h

turn_like : (w : Worded) (p left : ℕ) (row' : Option Row) → left_in_row p row' ≤ left → left_in_row p row' ≤ 999
    → Keeps_like row' (turn_with w p left)
turn_like w p left row' less few e is =
    subst (λ z. Like (Some (record { pid = p; left = left })) (row_by row' z)) (one_event (Turn p) e is)
    (refl, (less, few))

turned_like : (w : Worded) (p : ℕ) (row' : Option Row) → Like w.row row' → Keeps_like row' (turn_of w p)
turned_like w p row' h =
    let few = fewer_left p w.row row' h in turn_like w p (left_in_row p w.row) row' few.0 few.1

serve_like : (w : Worded) (row' : Option Row) → Like w.row row' → Keeps_like row' (serve_of w)
serve_like w row' h e is = subst (λ z. Like w.row (row_by row' z)) (one_event Serve e is) h

end_like : (w : Worded) (row' : Option Row) → Keeps_like row' (end_of w)
end_like w row' e is = absurd (cc is)

next_row_like : (w : Worded) (row row' : Option Row) (next : Option ℕ) → Like row row'
    → Keeps_like row' (next_row w next)
next_row_like w row row' None h = end_like w row'
next_row_like w row row' (Some p) h =
    let few = fewer_left p row row' h in turn_like w p 999 row' few.1 few.1

pick_like : (row' : Option Row) (b : Bool) (x y : Given Worded) → Keeps_like row' x → Keeps_like row' y
    → Keeps_like row' (cond b x y)
pick_like row' true x y f g = f
pick_like row' false x y f g = g

go_like : (w : Worded) (seen : Readiness) (row row' : Option Row) → Like row row' → Keeps_like row' (go_on w seen row)
go_like w seen None row' h = next_row_like w None row' (next_able seen.able seen.last_pid 0) h
go_like w seen (Some r) None h = absurd h
go_like w seen (Some r) (Some r') h =
    pick_like (Some r') (seen.able r.pid && nat_lt 0 r.left) (turn_with w r.pid (r.left - 1))
    (next_row w (next_able seen.able seen.last_pid r.pid))
    (turn_like w r.pid (r.left - 1) (Some r') (own_left r r' h) (fewer_left r.pid (Some r) (Some r') h).1)
    (next_row_like w (Some r) (Some r') (next_able seen.able seen.last_pid r.pid) h)

default_like : (w : Worded) (seen : Readiness) (row' : Option Row) → Like w.row row'
    → Keeps_like row' (by_default w seen)
default_like w seen row' h =
    pick_like row' seen.ready (serve_of w) (go_on w seen w.row) (serve_like w row' h) (go_like w seen w.row row' h)

word_like : (w : Worded) (seen : Readiness) (ws : List Word) (row' : Option Row) → Like w.row row'
    → Keeps_like row' (by_word w seen ws)
word_like w seen [] row' h = default_like (record w { serving = true; returning = None }) seen row' h
word_like w seen (word.Turn p ∷ ws) row' h =
    turned_like (record w { words = ws; serving = true; returning = None }) p row' h
word_like w seen (word.TurnAlone p ∷ ws) row' h =
    turned_like (record w { words = ws; serving = false; returning = None }) p row' h
word_like w seen (word.Serve ∷ ws) row' h =
    serve_like (record w { words = ws; serving = false; returning = None }) row' h
word_like w seen (word.UntilReturn p ∷ ws) row' h =
    let back : Returning = record { pid = p; finished = seen.finished p } in
    turned_like (record w { words = ws; serving = true; returning = Some back }) p row' h

after_like : (w : Worded) (seen : Readiness) (r : Option Returning) (row' : Option Row) → Like w.row row'
    → Keeps_like row' (after_serves w seen r)
after_like w seen None row' h = word_like w seen w.words row' h
after_like w seen (Some r) row' h =
    pick_like row' (goes_on seen r) _ _
    (turned_like (record w { returning = Some (record r { finished = seen.finished r.pid }) }) r.pid row' h)
    (word_like w seen w.words row' h)

next_like : (w : Worded) (seen : Readiness) (row' : Option Row) → Like w.row row' → Keeps_like row' (next_worded w seen)
next_like w seen row' h =
    pick_like row' (w.left == 0) (end_of w)
    (cond (w.serving && seen.ready) (serve_of w) (after_serves w seen w.returning))
    (end_like w row')
    (pick_like row' (w.serving && seen.ready) (serve_of w) (after_serves w seen w.returning) (serve_like w row' h)
    (after_like w seen w.returning row' h))

-- ---- where the first has ended, though more events were allowed, nobody is to have a turn

abbrev IsOver : Readiness → Option Row → Given Worded → Type 0
IsOver seen row g = g.event ≡ None → (seen.ready ≡ false) × Stuck seen row

no_row : (w : Worded) (next : Option ℕ) → (next_row w next).event ≡ None → next ≡ None
no_row w None h = refl
no_row w (Some p) h = absurd (cc h)

go_over : (w : Worded) (seen : Readiness) (row : Option Row) → (go_on w seen row).event ≡ None → Stuck seen row
go_over w seen None h = no_row w (next_able seen.able seen.last_pid 0) h
go_over w seen (Some r) h = go (seen.able r.pid && nat_lt 0 r.left) refl h
  where
    go : (b : Bool) → (seen.able r.pid && nat_lt 0 r.left) ≡ b
        → (cond b (turn_with w r.pid (r.left - 1)) (next_row w (next_able seen.able seen.last_pid r.pid))).event ≡ None
        → Stuck seen (Some r)
    go true e k = absurd (cc k)
    go false e k = (e, no_row w (next_able seen.able seen.last_pid r.pid) k)

default_over : (w : Worded) (seen : Readiness) → IsOver seen w.row (by_default w seen)
default_over w seen h = go seen.ready refl h
  where
    go : (b : Bool) → seen.ready ≡ b → (cond b (serve_of w) (go_on w seen w.row)).event ≡ None
        → (seen.ready ≡ false) × Stuck seen w.row
    go true e k = absurd (cc k)
    go false e k = (e, go_over w seen w.row k)

word_over : (w : Worded) (seen : Readiness) (ws : List Word) → IsOver seen w.row (by_word w seen ws)
word_over w seen [] h = default_over (record w { serving = true; returning = None }) seen h
word_over w seen (word.Turn p ∷ ws) h = absurd (cc h)
word_over w seen (word.TurnAlone p ∷ ws) h = absurd (cc h)
word_over w seen (word.Serve ∷ ws) h = absurd (cc h)
word_over w seen (word.UntilReturn p ∷ ws) h = absurd (cc h)

pick_over : (seen : Readiness) (row : Option Row) (b : Bool) (x y : Given Worded) → IsOver seen row x
    → IsOver seen row y → IsOver seen row (cond b x y)
pick_over seen row true x y f g = f
pick_over seen row false x y f g = g

after_over : (w : Worded) (seen : Readiness) (r : Option Returning) → IsOver seen w.row (after_serves w seen r)
after_over w seen None = word_over w seen w.words
after_over w seen (Some r) = pick_over seen w.row (goes_on seen r) _ _ (λ h. absurd (cc h)) (word_over w seen w.words)

next_over : (w : Worded) (seen : Readiness) → (w.left == 0) ≡ false → IsOver seen w.row (next_worded w seen)
next_over w seen some h =
    pick_over seen w.row (w.serving && seen.ready) (serve_of w) (after_serves w seen w.returning) (λ k. absurd (cc k))
    (after_over w seen w.returning)
    (ap (λ b. (cond b (end_of w) (cond (w.serving && seen.ready) (serve_of w) (after_serves w seen w.returning))).event)
    (sym some) ∙ h)

-- so nobody is in the second

stuck_too : (seen : Readiness) (row row' : Option Row) → Like row row' → Stuck seen row → Stuck seen row'
stuck_too seen None None h k = k
stuck_too seen None (Some r') h k = absurd h
stuck_too seen (Some r) None h k = absurd h
stuck_too seen (Some r) (Some r') h k = (
  ap (λ p. seen.able p && nat_lt 0 r'.left) h.0 ∙ none_too (seen.able r.pid) k.0,
  ap (λ p. next_able seen.able seen.last_pid p) h.0 ∙ k.1,
)
  where
    less_too : nat_lt 0 r.left ≡ false → nat_lt 0 r'.left ≡ false
    less_too e = grind (arith, nat_tests, h.1.0)

    none_too : (a : Bool) → (a && nat_lt 0 r.left) ≡ false → (a && nat_lt 0 r'.left) ≡ false
    none_too true e = less_too e
    none_too false e = refl

-- ---- one after the other

-- what the first gives, and what is left of it
record Gave (u : Worded) (seen : Readiness) (e : Event) (y : Schedule) : Type 0 where
  event : (next_worded u seen).event ≡ Some e
  left : y ≡ of (next_worded u seen).schedule

the_rest : Schedule → Option (Event × Schedule) → Schedule
the_rest y None = y
the_rest y (Some x) = x.1

the_first : Event → Option (Event × Schedule) → Event
the_first e None = e
the_first e (Some x) = x.0

gave_by : (g : Given Worded) (x : Option Event) (e : Event) (y : Schedule)
    → option_map {U = Event × Schedule} (λ z. (z, of g.schedule)) x ≡ Some (e, y) → (x ≡ Some e) × (y ≡ of g.schedule)
unfolding the_first the_rest
gave_by g None e y h = absurd (cc h)
gave_by g (Some z) e y h = (ap (λ v. Some v) (ap (the_first e) h), sym (ap (the_rest y) h))

gave : (u : Worded) (seen : Readiness) (e : Event) (y : Schedule) → given (next_of (of u) seen) ≡ Some (e, y)
    → Gave u seen e y
unfolding next_by
gave u seen e y h =
    let it = gave_by (next_worded u seen) (next_worded u seen).event e y h in record { event = it.0; left = it.1 }

gave_none : (u : Worded) (seen : Readiness) → given (next_of (of u) seen) ≡ None → (next_worded u seen).event ≡ None
unfolding next_by
gave_none u seen h = go (next_worded u seen) (next_worded u seen).event h
  where
    go : (g : Given Worded) (x : Option Event) → option_map {U = Event × Schedule} (λ z. (z, of g.schedule)) x ≡ None
        → x ≡ None
    go g None k = refl
    go g (Some z) k = absurd (cc k)

one_less : EventsAreFew → (u : Worded) (seen : Readiness) (e : Event) → (next_worded u seen).event ≡ Some e
    → (next_worded u seen).schedule.left + 1 ≡ u.left
unfolding next_by
one_less few u seen e h = few (of u) seen e h

-- what is given while a request is ready
record IsServe (ws : List Word) (left : ℕ) (e : Event) (y : Schedule) : Type 0 where
  event : e ≡ Serve
  left_is : y ≡ by ws true None (left - 1)

is_serve : (ws : List Word) (left : ℕ) (seen : Readiness) (e : Event) (y : Schedule) → 0 < left → seen.ready ≡ true
    → given (next_of (by ws true None left) seen) ≡ Some (e, y) → IsServe ws left e y
unfolding the_first the_rest
is_serve ws left seen e y some r h =
    let same : Some (e, y) ≡ Some (Serve, by ws true None (left - 1)) = sym h ∙ serve_given ws None left seen some r in
    record { event = ap (the_first e) same; left_is = ap (the_rest y) same }

module _ (few : EventsAreFew) {W : Type 0} (sight : W → Readiness) (over asks : W → Type 0)
    (after : W → Event → W) where
  -- what a schedule of words gives is allowed
  allowed : (es : List Event) (u : Worded) (w : W) (row : Option Row) → Like u.row row
      → Fed sight over asks after (of u) w es → Allowed sight over asks after row u.left w es
  allowed [] u w row like (inl h) = inl h
  allowed [] u w row like (inr none) = inr (go (u.left == 0) refl)
    where
      go : (b : Bool) → (u.left == 0) ≡ b
          → (u.left ≡ 0) ⊎ (((sight w).ready ≡ false) × Stuck (sight w) row)
      go true e = inl (grind (arith, nat_tests, e))
      go false e =
          let it = next_over u (sight w) e (gave_none u (sight w) none) in
          inr (it.0, stuck_too (sight w) u.row row like it.1)
  allowed (e ∷ es) u w row like h =
      let it : Gave u (sight w) e h.0 = gave u (sight w) e h.0 h.1.1.0 in
      let v : Worded = (next_worded u (sight w)).schedule in
      let less : v.left + 1 ≡ u.left = one_less few u (sight w) e it.event in
      let one : v.left ≡ u.left - 1 = omega (arith, less) in (
        h.1.0,
        (
          omega (arith, less),
          subst (λ n. Allowed sight over asks after (row_by row e) n (after w e) es) one
              (allowed es v (after w e) (row_by row e) (next_like u (sight w) row like e it.event)
              (subst (λ y. Fed sight over asks after y (after w e) es) it.left h.1.1.1)),
        ),
      )

  -- and the requests that are ready at first are served before any word
  served_first : (k : ℕ) (es : List Event) (ws : List Word) (w : W) (left : ℕ) → Begins sight after k w
      → Fed sight over asks after (by ws true None left) w es → BeginServed k es
  served_first zero es ws w left b h = tt
  served_first (suc k) [] ws w left b h = tt
  served_first (suc k) (e ∷ es) ws w left b h =
      let u : Worded = record { words = ws; serving = true; returning = None; row = None; left = left } in
      let it : Gave u (sight w) e h.0 = gave u (sight w) e h.0 h.1.1.0 in
      let less : (next_worded u (sight w)).schedule.left + 1 ≡ left = one_less few u (sight w) e it.event in
      let is : IsServe ws left e h.0 = is_serve ws left (sight w) e h.0 (omega (arith, less)) b.0 h.1.1.0 in
      subst (λ z. BeginServed (suc k) (z ∷ es)) (sym is.event)
      (served_first k es ws (after w Serve) (left - 1) b.1
      (subst (λ y. Fed sight over asks after y (after w Serve) es) is.left_is
      (subst (λ z. Fed sight over asks after h.0 (after w z) es) is.event h.1.1.1)))

pub events_again : EventsAreFew → WordsReadBack → EventsComeAgain
unfolding EventsComeAgain
events_again few back o script boot words limit events h numbers =
    let p : Options = asked_of o boot in
    let choice : Script = choice_of script in
    let u : Worded =
    record { words = words; serving = true; returning = None; row = None; left = min limit most_events } in
    let fed : Fed (linux.sight p) (linux.over p) (linux.asks p) (linux.after p choice) (of u) (world_of boot) events =
    to_fed p choice events (worded words limit) (world_of boot) h in
    made_again back o script boot limit events
    (served_first few (linux.sight p) (linux.over p) (linux.asks p) (linux.after p choice) 3 events words
    (world_of boot) (min limit most_events)
    (begins p choice (first_shared boot.limits boot.files boot.input) (booted boot.argv boot.env)) fed)
    (allowed few (linux.sight p) (linux.over p) (linux.asks p) (linux.after p choice) events u (world_of boot) None tt
    fed)
    numbers

pub runs_again : EventsAreFew → WordsReadBack → RunsComeAgain
unfolding RunsComeAgain EventsComeAgain
runs_again few back boot words limit script options run r numbers =
    comes_again next_of_host (worded words limit) boot limit script options run r
    (events_again few back options script boot words limit r.events r.given numbers)
