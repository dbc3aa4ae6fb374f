-- A schedule gives what its words say, and then the default schedule.
use Rattle.std.proofs.Common.{◌≡◌, ℕ, ◌+◌, ◌-◌, ◌<◌, ◌≤◌, Bool, true, false, cond, not, ◌&&◌, eqb, List, [], ◌∷◌, length, Option, Some, None, refl, sym, ap, ◌∙◌, arith}
use Rattle.std.specs.Prelude.{min, nat_lt, ◌==◌, ◌||◌}
use Rattle.std.proofs.lemmas.Bool.{ne_eqb}
use Rattle.std.proofs.lemmas.Bool.Decides.{nat_tests}
use Rattle.lx_abi.specs.declared.schedule.Event.{Event}
use Rattle.lx_abi.specs.declared.schedule.Event.TheVariants.{Turn, Serve}
use Rattle.lx_abi.specs.declared.schedule.Word.{Word}
use Rattle.lx_abi.specs.declared.schedule.Word.TheVariants as word
use Rattle.pt_schedule.specs.Cycle.{next_able}
use Rattle.pt_schedule.specs.declared.worded.Row.{Row}
use Rattle.pt_schedule.specs.declared.worded.Returning.{Returning}
use Rattle.pt_schedule.specs.declared.worded.Worded.{Worded}
use Rattle.pt_schedule.specs.declared.schedule.Order.TheVariants as order
use Rattle.pt_schedule.specs.Schedules.{Readiness, Given, by_word, end_of, go_on, left_in_row, most_events, next_by, next_row, next_worded, serve_of, turn_of, turn_with}
use Rattle.pt_schedule.specs.Said.{Last, WordsAreSaid, anew, defaulted, first_event, given_along, has_returned, next_last, said, serves_then, turn_then, turns_until, with_turn}

abbrev worded_by : List Word → Bool → Option Returning → Option Row → ℕ → Worded
worded_by words serving returning row left = record { words = words; serving = serving; returning = returning; row = row; left = left }

abbrev given_by : Worded → List Readiness → List Event
given_by w [] = []
given_by w (seen ∷ more) = first_event (next_worded w seen).event (given_by (next_worded w seen).schedule more)

abbrev on_from : Given Worded → List Readiness → List Event
on_from g more = first_event g.event (given_by g.schedule more)

-- the row that has so many turns left
abbrev row_of : Last → Option Row
row_of None = None
row_of (Some x) = Some (record { pid = x.0; left = 1000 - x.1 })

left_of : (b : Bool) (n : ℕ) → cond b (1000 - n - 1) 999 ≡ 1000 - cond b (n + 1) 1
left_of true n = omega arith
left_of false n = refl

row_goes_on : (p : ℕ) (last : Last) → Some (record { pid = p; left = left_in_row p (row_of last) }) ≡ row_of (with_turn p last)
row_goes_on p None = refl
row_goes_on p (Some x) = ap {A = ℕ} {B = Option Row} (λ n. Some (record { pid = p; left = n })) (left_of (x.0 == p) x.1)

pick : (b : Bool) (g h : Given Worded) (more : List Readiness) (xs ys : List Event) → on_from g more ≡ xs → on_from h more ≡ ys → on_from (cond b g h) more ≡ cond b xs ys
pick true g h more xs ys x y = x
pick false g h more xs ys x y = y

-- where events may still come
going : (left : ℕ) → 0 < left → eqb left 0 ≡ false
going left lt = ne_eqb left 0 (λ z. absurd (omega (arith, z, lt)))

unended : (z : Bool) (g h : Given Worded) (more : List Readiness) (ys : List Event) → z ≡ false → on_from h more ≡ ys → on_from (cond z g h) more ≡ ys
unended true g h more ys e b = absurd (cc e)
unended false g h more ys e b = b

-- ---- the default schedule

abbrev default_by : Last → ℕ → Worded
default_by last left = worded_by [] true None (row_of last) left

abbrev Again : List Readiness → ℕ → Type 0
Again more left = (l : Last) → given_by (default_by l left) more ≡ defaulted l more

new_row : (last : Last) (left : ℕ) (more : List Readiness) (next : Option ℕ) → Again more (left - 1) → on_from (next_row (default_by last left) next) more ≡ turn_then (anew next) (λ l. defaulted l more)
new_row last left more None again = refl
new_row last left more (Some p) again = ap (λ es. Turn p ∷ es) (again (Some (p, 1)))

same_row : (x : ℕ × ℕ) (left : ℕ) (more : List Readiness) (next : Option ℕ) (b : Bool) → Again more (left - 1)
    → on_from (cond b (turn_with (default_by (Some x) left) x.0 (1000 - x.1 - 1)) (next_row (default_by (Some x) left) next)) more ≡ turn_then (cond b (Some (x.0, x.1 + 1)) (anew next)) (λ l. defaulted l more)
same_row x left more next true again =
    ap {A = ℕ} (λ n. Turn x.0 ∷ given_by (worded_by [] true None (Some (record { pid = x.0; left = n })) (left - 1)) more) (omega arith)
    ∙ ap (λ es. Turn x.0 ∷ es) (again (Some (x.0, x.1 + 1)))
same_row x left more next false again = new_row (Some x) left more next again

few_had : (n : ℕ) → nat_lt 0 (1000 - n) ≡ nat_lt n 1000
few_had n = grind (arith, nat_tests)

turn_at : (last : Last) (left : ℕ) (seen : Readiness) (more : List Readiness) → Again more (left - 1) → on_from (go_on (default_by last left) seen (row_of last)) more ≡ turn_then (next_last seen last) (λ l. defaulted l more)
turn_at None left seen more again = new_row None left more (next_able seen.able seen.last_pid 0) again
turn_at (Some x) left seen more again =
    ap (λ b. on_from (cond (seen.able x.0 && b) (turn_with (default_by (Some x) left) x.0 (1000 - x.1 - 1)) (next_row (default_by (Some x) left) (next_able seen.able seen.last_pid x.0))) more) (few_had x.1)
    ∙ same_row x left more (next_able seen.able seen.last_pid x.0) (seen.able x.0 && nat_lt x.1 1000) again

pick_twice : (b : Bool) (g h : Given Worded) (more : List Readiness) (xs ys : List Event) → on_from g more ≡ xs → on_from h more ≡ ys → on_from (cond b g (cond b g h)) more ≡ cond b xs ys
pick_twice true g h more xs ys x y = x
pick_twice false g h more xs ys x y = y

default_at : (sights : List Readiness) (last : Last) (left : ℕ) → length sights ≤ left → given_by (default_by last left) sights ≡ defaulted last sights
default_at [] last left few = refl
default_at (seen ∷ more) last left few =
    let w : Worded = default_by last left in
    unended (eqb left 0) (end_of w) (cond seen.ready (serve_of w) (cond seen.ready (serve_of w) (go_on w seen (row_of last)))) more (defaulted last (seen ∷ more)) (going left (omega (arith, few)))
    (pick_twice seen.ready (serve_of w) (go_on w seen (row_of last)) more (Serve ∷ defaulted last more) (turn_then (next_last seen last) (λ l. defaulted l more))
    (ap (λ es. Serve ∷ es) (default_at more last (left - 1) (omega (arith, few))))
    (turn_at last left seen more (λ l. default_at more l (left - 1) (omega (arith, few)))))

-- ---- words

abbrev WordAt : List Word → Type 0
WordAt ws =
    (serving : Bool) (returning : Option Returning) (last : Last) (left : ℕ) (seen : Readiness) (more : List Readiness) → length more < left
    → on_from (by_word (worded_by ws serving returning (row_of last) left) seen ws) more ≡ said ws last (seen ∷ more)

said_nothing : (ws : List Word) (last : Last) → said ws last [] ≡ []
said_nothing [] last = refl
said_nothing (w ∷ ws) last = refl

-- behind a word without Serves
alone : (ws : List Word) → WordAt ws → (sights : List Readiness) (last : Last) (left : ℕ) → length sights ≤ left → given_by (worded_by ws false None (row_of last) left) sights ≡ said ws last sights
alone ws at [] last left few = sym (said_nothing ws last)
alone ws at (seen ∷ more) last left few =
    let w : Worded = worded_by ws false None (row_of last) left in
    unended (eqb left 0) (end_of w) (by_word w seen ws) more (said ws last (seen ∷ more)) (going left (omega (arith, few))) (at false None last left seen more (omega (arith, few)))

-- behind a word with Serves
served : (ws : List Word) → WordAt ws → (sights : List Readiness) (last : Last) (left : ℕ) → length sights ≤ left → given_by (worded_by ws true None (row_of last) left) sights ≡ serves_then (said ws last) sights
served ws at [] last left few = refl
served ws at (seen ∷ more) last left few =
    let w : Worded = worded_by ws true None (row_of last) left in
    unended (eqb left 0) (end_of w) (cond seen.ready (serve_of w) (by_word w seen ws)) more (serves_then (said ws last) (seen ∷ more)) (going left (omega (arith, few)))
    (pick seen.ready (serve_of w) (by_word w seen ws) more (Serve ∷ serves_then (said ws last) more) (said ws last (seen ∷ more))
    (ap (λ es. Serve ∷ es) (served ws at more last (left - 1) (omega (arith, few)))) (at true None last left seen more (omega (arith, few))))

-- a word `p.` goes on, or not
back : (began able ends : Bool) (g h : Given Worded) (more : List Readiness) (xs ys : List Event) → on_from g more ≡ xs → on_from h more ≡ ys → on_from (cond (able && not (began && not ends)) g h) more ≡ cond ((began && not ends) || not able) ys xs
back true true true g h more xs ys x y = x
back true true false g h more xs ys x y = y
back true false true g h more xs ys x y = y
back true false false g h more xs ys x y = y
back false true true g h more xs ys x y = x
back false true false g h more xs ys x y = x
back false false true g h more xs ys x y = y
back false false false g h more xs ys x y = y

abbrev return_by : List Word → ℕ → Bool → Option Row → ℕ → Worded
return_by ws p finished row left = worded_by ws true (Some (record { pid = p; finished = finished })) row left

-- under a word `p.`
returning : (ws : List Word) → WordAt ws → (p : ℕ) (sights : List Readiness) (before : Readiness) (last : Last) (left : ℕ) → length sights ≤ left → given_by (return_by ws p (before.finished p) (row_of last) left) sights ≡ turns_until p before last (said ws) sights
returning ws at p [] before last left few = refl
returning ws at p (seen ∷ more) before last left few =
    let w : Worded = return_by ws p (before.finished p) (row_of last) left in
    let again : Given Worded = turn_of (return_by ws p (seen.finished p) (row_of last) left) p in
    let next : Given Worded = cond (seen.able p && not (before.finished p && not (seen.finished p))) again (by_word w seen ws) in
    unended (eqb left 0) (end_of w) (cond seen.ready (serve_of w) next) more (turns_until p before last (said ws) (seen ∷ more)) (going left (omega (arith, few)))
    (pick seen.ready (serve_of w) next more (Serve ∷ turns_until p before last (said ws) more) (cond (has_returned p before seen) (said ws last (seen ∷ more)) (Turn p ∷ turns_until p seen (with_turn p last) (said ws) more))
    (ap (λ es. Serve ∷ es) (returning ws at p more before last (left - 1) (omega (arith, few))))
    (back (before.finished p) (seen.able p) (seen.finished p) again (by_word w seen ws) more (Turn p ∷ turns_until p seen (with_turn p last) (said ws) more) (said ws last (seen ∷ more))
    (ap (λ row. Turn p ∷ given_by (return_by ws p (seen.finished p) row (left - 1)) more) (row_goes_on p last) ∙ ap (λ es. Turn p ∷ es) (returning ws at p more seen (with_turn p last) (left - 1) (omega (arith, few))))
    (at true (Some (record { pid = p; finished = before.finished p })) last left seen more (omega (arith, few)))))

word_at : (ws : List Word) → WordAt ws
word_at [] serving back_to last left seen more few =
    let w : Worded = default_by last left in
    pick seen.ready (serve_of w) (go_on w seen (row_of last)) more (Serve ∷ defaulted last more) (turn_then (next_last seen last) (λ l. defaulted l more))
    (ap (λ es. Serve ∷ es) (default_at more last (left - 1) (omega (arith, few))))
    (turn_at last left seen more (λ l. default_at more l (left - 1) (omega (arith, few))))
word_at (word.Turn p ∷ ws) serving back_to last left seen more few =
    ap (λ row. Turn p ∷ given_by (worded_by ws true None row (left - 1)) more) (row_goes_on p last) ∙ ap (λ es. Turn p ∷ es) (served ws (word_at ws) more (with_turn p last) (left - 1) (omega (arith, few)))
word_at (word.TurnAlone p ∷ ws) serving back_to last left seen more few =
    ap (λ row. Turn p ∷ given_by (worded_by ws false None row (left - 1)) more) (row_goes_on p last) ∙ ap (λ es. Turn p ∷ es) (alone ws (word_at ws) more (with_turn p last) (left - 1) (omega (arith, few)))
word_at (word.Serve ∷ ws) serving back_to last left seen more few = ap (λ es. Serve ∷ es) (alone ws (word_at ws) more last (left - 1) (omega (arith, few)))
word_at (word.UntilReturn p ∷ ws) serving back_to last left seen more few =
    ap (λ row. Turn p ∷ given_by (return_by ws p (seen.finished p) row (left - 1)) more) (row_goes_on p last) ∙ ap (λ es. Turn p ∷ es) (returning ws (word_at ws) p more seen (with_turn p last) (left - 1) (omega (arith, few)))

-- the events of a schedule by words
along : (sights : List Readiness) (w : Worded) → given_along (record { order = order.Worded w }) sights ≡ given_by w sights
unfolding next_by
along [] w = refl
along (seen ∷ more) w = ap (λ es. first_event (next_worded w seen).event es) (along more (next_worded w seen).schedule)

pub words_are_said : WordsAreSaid
words_are_said ws limit sights few most =
    along sights (worded_by ws true None None (min limit most_events)) ∙ served ws (word_at ws) sights None (min limit most_events) (omega (arith, few, most))
