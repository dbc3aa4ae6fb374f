-- What a schedule by words gives, whatever its limit; and what words `p` and `p.` give.
use Rattle.std.proofs.Common.{◌≡◌, ℕ, ◌-◌, ◌<◌, Bool, true, false, cond, List, [], ◌∷◌, Option, Some, None, refl, ap, arith}
use Rattle.std.specs.Prelude.{◌==◌, ◌&&◌, nat_lt}
use Rattle.std.proofs.lemmas.Bool.Decides.{nat_tests}
use Rattle.lx_abi.specs.declared.schedule.Event.{Event}
use Rattle.lx_abi.specs.declared.schedule.Event.TheVariants.{Turn}
use Rattle.lx_abi.specs.declared.schedule.Word.{Word}
use Rattle.lx_abi.specs.declared.schedule.Word.TheVariants as word
use Rattle.pt_schedule.specs.Cycle.{next_able}
use Rattle.pt_schedule.specs.Turns.{from_turn}
use Rattle.pt_schedule.specs.declared.worded.Row.{Row}
use Rattle.pt_schedule.specs.declared.worded.Returning.{Returning}
use Rattle.pt_schedule.specs.declared.worded.Worded.{Worded}
use Rattle.pt_schedule.specs.Schedules.{Readiness, Given, turn_with, turn_of, serve_of, end_of, next_row, go_on, by_default, by_word, goes_on, after_serves, next_worded}
use Rattle.pt_schedule.specs.Eager.{are_eager, IsEager, GivesTurn, EagerWordsServeFirst}

-- The same words with another limit

abbrev pub relimit : ℕ → Worded → Worded
relimit n w = record w { left = n }

-- of which an event takes one, and the end all
abbrev pub still : Option Event → ℕ → ℕ
still None n = 0
still (Some e) n = n

-- what is given, and left, with this limit after it
abbrev pub with_limit : ℕ → Given Worded → Given Worded
with_limit n g = record { event = g.event; schedule = relimit (still g.event n) g.schedule }

module _ (l : ℕ) (seen : Readiness) where
  abbrev IsAlike : Given Worded → Given Worded → Type 0
  IsAlike g h = g ≡ with_limit (l - 1) h

  either : (b : Bool) (f g f' g' : Given Worded) → IsAlike f' f → IsAlike g' g → IsAlike (cond b f' g') (cond b f g)
  either true f g f' g' h k = h
  either false f g f' g' h k = k

  row_limit : (w : Worded) (p : Option ℕ) → IsAlike (next_row (relimit l w) p) (next_row w p)
  row_limit w None = refl
  row_limit w (Some p) = refl

  go_limit : (w : Worded) (r : Option Row) → IsAlike (go_on (relimit l w) seen r) (go_on w seen r)
  go_limit w None = row_limit w (next_able seen.able seen.last_pid 0)
  go_limit w (Some r) =
      either (seen.able r.pid && nat_lt 0 r.left) (turn_with w r.pid (r.left - 1)) (next_row w (next_able seen.able seen.last_pid r.pid)) (turn_with (relimit l w) r.pid (r.left - 1)) (next_row (relimit l w) (next_able seen.able seen.last_pid r.pid)) refl (row_limit w (next_able seen.able seen.last_pid r.pid))

  default_limit : (w : Worded) → IsAlike (by_default (relimit l w) seen) (by_default w seen)
  default_limit w = either seen.ready (serve_of w) (go_on w seen w.row) (serve_of (relimit l w)) (go_on (relimit l w) seen w.row) refl (go_limit w w.row)

  word_limit : (w : Worded) (ws : List Word) → IsAlike (by_word (relimit l w) seen ws) (by_word w seen ws)
  word_limit w [] = default_limit (record w { serving = true; returning = None })
  word_limit w (word.Turn p ∷ ws) = refl
  word_limit w (word.TurnAlone p ∷ ws) = refl
  word_limit w (word.Serve ∷ ws) = refl
  word_limit w (word.UntilReturn p ∷ ws) = refl

  after_limit : (w : Worded) (r : Option Returning) → IsAlike (after_serves (relimit l w) seen r) (after_serves w seen r)
  after_limit w None = word_limit w w.words
  after_limit w (Some r) =
      either (goes_on seen r) (turn_of (record w { returning = Some (record r { finished = seen.finished r.pid }) }) r.pid) (by_word w seen w.words)
      (turn_of (record w { returning = Some (record r { finished = seen.finished r.pid }); left = l }) r.pid) (by_word (relimit l w) seen w.words) refl (word_limit w w.words)

  next_limit : (w : Worded) (y z : Bool) → y ≡ false → z ≡ false
      → IsAlike (cond y (end_of (relimit l w)) (cond (w.serving && seen.ready) (serve_of (relimit l w)) (after_serves (relimit l w) seen w.returning)))
      (cond z (end_of w) (cond (w.serving && seen.ready) (serve_of w) (after_serves w seen w.returning)))
  next_limit w true z d e = absurd (cc d)
  next_limit w false true d e = absurd (cc e)
  next_limit w false false d e =
      either (w.serving && seen.ready) (serve_of w) (after_serves w seen w.returning) (serve_of (relimit l w)) (after_serves (relimit l w) seen w.returning) refl (after_limit w w.returning)

pub limited : (l : ℕ) (seen : Readiness) (w : Worded) → (l == 0) ≡ false → (w.left == 0) ≡ false → next_worded (relimit l w) seen ≡ with_limit (l - 1) (next_worded w seen)
limited l seen w d e = next_limit l seen w (l == 0) (w.left == 0) d e

-- Words `p` and `p.`

pub from_eager : (ws : List Word) → are_eager ws ≡ true → from_turn ws ≡ ws
from_eager [] h = refl
from_eager (word.Turn p ∷ ws) h = refl
from_eager (word.TurnAlone p ∷ ws) h = absurd (cc h)
from_eager (word.Serve ∷ ws) h = absurd (cc h)
from_eager (word.UntilReturn p ∷ ws) h = refl

some_turn : (p : ℕ) (e : Event) → Some (Turn p) ≡ Some e → (q : ℕ) × (e ≡ Turn q)
some_turn p e h = (p, cc h)

none_given : (e : Event) → ◌≡◌ {A = Option Event} None (Some e) → (q : ℕ) × (e ≡ Turn q)
none_given e h = absurd (cc h)

module _ (seen : Readiness) where
  one_of : (b : Bool) (f g : Given Worded) → GivesTurn f → GivesTurn g → GivesTurn (cond b f g)
  one_of true f g h k = h
  one_of false f g h k = k

  unready : (b : Bool) (f g : Given Worded) → b ≡ false → GivesTurn g → GivesTurn (cond b f g)
  unready true f g e k = absurd (cc e)
  unready false f g e k = k

  row_eager : (w : Worded) → IsEager w → (p : Option ℕ) → GivesTurn (next_row w p)
  row_eager w h None = record { turns = none_given; eager = record { serving = h.serving; words = h.words } }
  row_eager w h (Some p) = record { turns = some_turn p; eager = record { serving = h.serving; words = h.words } }

  turn_eager : (w : Worded) → IsEager w → (p n : ℕ) → GivesTurn (turn_with w p n)
  turn_eager w h p n = record { turns = some_turn p; eager = record { serving = h.serving; words = h.words } }

  go_eager : (w : Worded) → IsEager w → (r : Option Row) → GivesTurn (go_on w seen r)
  go_eager w h None = row_eager w h (next_able seen.able seen.last_pid 0)
  go_eager w h (Some r) = one_of (seen.able r.pid && nat_lt 0 r.left) (turn_with w r.pid (r.left - 1)) (next_row w (next_able seen.able seen.last_pid r.pid)) (turn_eager w h r.pid (r.left - 1)) (row_eager w h (next_able seen.able seen.last_pid r.pid))

  word_eager : (w : Worded) → seen.ready ≡ false → (ws : List Word) → w.words ≡ ws → are_eager ws ≡ true → GivesTurn (by_word w seen ws)
  word_eager w e [] f h =
      let v : Worded = record w { serving = true; returning = None } in
      unready seen.ready (serve_of v) (go_on v seen v.row) e (go_eager v (record { serving = refl; words = ap are_eager f }) v.row)
  word_eager w e (word.Turn p ∷ ws) f h = record { turns = some_turn p; eager = record { serving = refl; words = h } }
  word_eager w e (word.TurnAlone p ∷ ws) f h = absurd (cc h)
  word_eager w e (word.Serve ∷ ws) f h = absurd (cc h)
  word_eager w e (word.UntilReturn p ∷ ws) f h = record { turns = some_turn p; eager = record { serving = refl; words = h } }

  after_eager : (w : Worded) → seen.ready ≡ false → IsEager w → (r : Option Returning) → GivesTurn (after_serves w seen r)
  after_eager w e h None = word_eager w e w.words refl h.words
  after_eager w e h (Some r) =
      let v : Worded = record w { returning = Some (record r { finished = seen.finished r.pid }) } in
      one_of (goes_on seen r) (turn_of v r.pid) (by_word w seen w.words) (record { turns = some_turn r.pid; eager = record { serving = h.serving; words = h.words } }) (word_eager w e w.words refl h.words)

-- where no request is ready
no_serve : (s r : Bool) → r ≡ false → (s && r) ≡ false
no_serve true r e = e
no_serve false r e = refl

pub gives_turn : (w : Worded) (seen : Readiness) → IsEager w → seen.ready ≡ false → (w.left == 0) ≡ false → GivesTurn (next_worded w seen)
gives_turn w seen h e f =
    unready seen (w.left == 0) (end_of w) (cond (w.serving && seen.ready) (serve_of w) (after_serves w seen w.returning)) f
    (unready seen (w.serving && seen.ready) (serve_of w) (after_serves w seen w.returning) (no_serve w.serving seen.ready e) (after_eager seen w e h w.returning))

-- where one is
served_by : (w : Worded) (seen : Readiness) (z s r : Bool) → z ≡ false → s ≡ true → r ≡ true → cond z (end_of w) (cond (s && r) (serve_of w) (after_serves w seen w.returning)) ≡ serve_of w
served_by w seen true s r e f g = absurd (cc e)
served_by w seen false false r e f g = absurd (cc f)
served_by w seen false true false e f g = absurd (cc g)
served_by w seen false true true e f g = refl

pub gives_serve : (w : Worded) (seen : Readiness) → IsEager w → seen.ready ≡ true → (w.left == 0) ≡ false → next_worded w seen ≡ serve_of w
gives_serve w seen h e f = served_by w seen (w.left == 0) w.serving seen.ready f h.serving e

-- nothing is left
ended_by : (w : Worded) (seen : Readiness) (z : Bool) → z ≡ true → cond z (end_of w) (cond (w.serving && seen.ready) (serve_of w) (after_serves w seen w.returning)) ≡ end_of w
ended_by w seen true e = refl
ended_by w seen false e = absurd (cc e)

pub gives_none : (w : Worded) (seen : Readiness) → (w.left == 0) ≡ true → next_worded w seen ≡ end_of w
gives_none w seen e = ended_by w seen (w.left == 0) e

some_left : (n : ℕ) → 0 < n → (n == 0) ≡ false
some_left n l = grind (arith, nat_tests)

pub serve_first : EagerWordsServeFirst
serve_first w seen h l = record {
  serves = λ e. gives_serve w seen h e (some_left w.left l);
  turns = λ e. gives_turn w seen h e (some_left w.left l);
}
