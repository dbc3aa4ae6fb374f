-- A word `p` for each of a list of turns gives these turns.
use Rattle.std.proofs.Common.{◌≡◌, ℕ, ◌-◌, ◌≤◌, ◌<◌, Bool, true, false, cond, List, [], ◌∷◌, length, Option, Some, None, refl, sym, ap, subst, arith}
use Rattle.std.specs.Prelude.{◌==◌, min}
use Rattle.std.proofs.lemmas.Bool.Decides.{nat_tests}
use Rattle.lx_kernel.specs.Laws.{after_all}
use Rattle.lx_kernel.specs.Runs.{Run, after_turn}
use Rattle.pt_schedule.specs.declared.worded.Row.{Row}
use Rattle.pt_schedule.specs.declared.worded.Worded.{Worded}
use Rattle.pt_schedule.specs.declared.schedule.Order.TheVariants as order
use Rattle.pt_schedule.specs.declared.schedule.Schedule.{Schedule}
use Rattle.pt_schedule.specs.Schedules.{Given, GivenTurn, end_of, turn_of, left_in_row, next_by, unserved, given_turn, next_turn_of, most_events}
use Rattle.pt_schedule.specs.Untraced.{readiness_of}
use Rattle.pt_schedule.specs.Eager.{GivesTurns, turn_words, TurnsGiveThemselves}

abbrev by : Worded → Schedule
by u = record { order = order.Worded u }

abbrev in_order : Given Worded → Given Schedule
in_order g = record { event = g.event; schedule = by g.schedule }

some_more : (n : ℕ) → 0 < n → (n == 0) ≡ false
some_more n l = grind (arith, nat_tests)

abbrev at_words : List ℕ → Option Row → ℕ → Worded
at_words turns row n = record { words = turn_words turns; serving = true; returning = None; row = row; left = n }

abbrev row_with : ℕ → Option Row → Option Row
row_with p row = Some (record { pid = p; left = left_in_row p row })

one_word : (p : ℕ) (ps : List ℕ) (row : Option Row) (n : ℕ) (k : Run) → (n == 0) ≡ false → next_turn_of (by (at_words (p ∷ ps) row n)) (readiness_of k) ≡ record { pid = Some p; schedule = by (at_words ps (row_with p row) (n - 1)) }
unfolding next_by unserved
one_word p ps row n k e = go (n == 0) e
  where
    go : (z : Bool) → z ≡ false → given_turn (in_order (cond z (end_of (at_words (p ∷ ps) row n)) (turn_of (at_words ps row n) p))) ≡ record { pid = Some p; schedule = by (at_words ps (row_with p row) (n - 1)) }
    go true e = absurd (cc e)
    go false e = refl

themselves : (turns : List ℕ) (k : Run) (row : Option Row) (n : ℕ) → length turns ≤ n → (left : Schedule) × GivesTurns k (by (at_words turns row n)) turns (after_all k turns) left
themselves [] k row n l = (by (at_words [] row n), (refl, refl))
themselves (p ∷ ps) k row n l =
    let more = themselves ps (after_turn k p) (row_with p row) (n - 1) (omega (arith, l)) in
    let next : next_turn_of (by (at_words (p ∷ ps) row n)) (readiness_of k) ≡ record { pid = Some p; schedule = by (at_words ps (row_with p row) (n - 1)) } = one_word p ps row n k (some_more n (omega (arith, l))) in (
      more.0,
      (
        ap (λ (x : GivenTurn). x.pid) next,
        subst (λ (x : Schedule). GivesTurns (after_turn k p) x ps (after_all (after_turn k p) ps) more.0) (sym (ap (λ (x : GivenTurn). x.schedule) next)) more.1,
      ),
    )

pub turns_themselves : TurnsGiveThemselves
unfolding TurnsGiveThemselves
turns_themselves k turns n l most =
    let enough : min n most_events ≡ n = omega (arith, most) in
    subst (λ i. (left : Schedule) × GivesTurns k (by (at_words turns None i)) turns (after_all k turns) left) (sym enough) (themselves turns k None n l)
