-- Turns up to a place that is ahead.
use Rattle.std.proofs.Common.{◌≡◌, Bool, ℕ, ◌-◌, ◌+◌, ◌<◌, ◌≤◌, true, false, cond, ◌&&◌, List, [], ◌∷◌, ◌++◌, Option, Some, None, refl, sym, ap, subst, ◌∙◌, append-nil, arith}
use Rattle.std.specs.Prelude.{◌==◌, if◌then◌else◌, nat_le}
use Rattle.std.specs.Option.{option_to_list}
use Rattle.std.proofs.lemmas.Bool.Decides.{nat_tests}
use Rattle.lx_abi.specs.declared.log.Item.{Item}
use Rattle.lx_abi.specs.Log.{entries, is_entry}
use Rattle.lx_kernel.specs.Runs.{Run}
use Rattle.pt_schedule.specs.Rows.{Continues}
use Rattle.pt_schedule.specs.Schedules.{GivenTurn, next_turn_of}
use Rattle.pt_schedule.specs.Untraced.{readiness_of}
use Rattle.pt_schedule.specs.declared.schedule.Schedule.{Schedule}
use Rattle.sweep_rows.proofs.Counting.{entries_more}
use Rattle.sweep_faults.specs.declared.faults.Fault.{Fault}
use Rattle.sweep_rows.specs.declared.kinds.Kind.{Kind}
use Rattle.sweep_faults.specs.declared.faults.Place.{Place}
use Rattle.sweep_faults.specs.Faults.{after_fault, ends_at, has_begun, is_at, is_due, is_stop, is_world}
use Rattle.sweep_faults.specs.InRows.{InRow}
use Rattle.sweep_faults.specs.Led.{Before, EndsBefore, IsAhead, LeadsOn, RunsThrough, StandsAt, entered, fault_at, left_of}
use Rattle.sweep_faults.specs.Runs.{RunsFaulted}
use Rattle.sweep_faults.proofs.Rows.{Made, ended_is, made_more, made_now, next_is, nobody_next, turn_is}
use Rattle.sweep_faults.proofs.Wording.{more_still}

-- How many entries are left

no_more : (n : ℕ) → 0 + n ≡ n
no_more n = omega arith

pub left_more : (place : Place) (left left' : ℕ) (item : Option Item) (log log' : List Item) → 0 < left → left' ≡ left_of place left item → log' ≡ log ++ option_to_list item
    → IsAhead place left log → IsAhead place left' log'
unfolding left_of
left_more place left left' None log log' some is e h =
    subst (λ n. IsAhead place n log') (sym is) (subst (λ l. IsAhead place left l) (sym (e ∙ append-nil log)) h)
left_more place left left' (Some item) log log' some is e h =
    subst (λ n. IsAhead place n log') (sym is)
    (subst (λ l. IsAhead place (cond (is_entry place.pid place.call item) (left - 1) left) l) (sym e) (of (is_entry place.pid place.call item) refl))
  where
    of : (b : Bool) → is_entry place.pid place.call item ≡ b → IsAhead place (cond b (left - 1) left) (log ++ item ∷ [])
    of true f =
        let more : entered place (log ++ item ∷ []) ≡ 1 + entered place log =
        entries_more place.pid place.call log item ∙ ap (λ b. (if b then 1 else 0) + entries place.pid place.call log) f in
        omega (arith, h, some, more)
    of false f =
        let more : entered place (log ++ item ∷ []) ≡ entered place log =
        entries_more place.pid place.call log item ∙ ap (λ b. (if b then 1 else 0) + entries place.pid place.call log) f
        ∙ no_more (entries place.pid place.call log) in
        omega (arith, h, more)

pub is_ahead : (place : Place) (left : ℕ) (log : List Item) → left ≡ place.n - entered place log → 0 < left → IsAhead place left log
is_ahead place left log h some = omega (arith, h, some)

pub is_past : {P : Type 0} (place : Place) (left : ℕ) (log : List Item) → left ≡ place.n - entered place log → left ≡ 0 → entered place log < place.n → P
is_past place left log h none ahead = absurd (omega (arith, h, none, ahead))

pub comes_later : (place : Place) (left : ℕ) (log : List Item) → IsAhead place left log → 0 < left → entered place log < place.n
comes_later place left log h some = omega (arith, h, some)

-- the place comes, since some entries were left
pub comes_first : (place : Place) (left : ℕ) (log : List Item) → left ≡ place.n - entered place log → (left ≡ 0 → ⊥) → entered place log < place.n
comes_first place left log h some =
    let more : 0 < left = grind (arith, nat_tests, some) in
    omega (arith, h, more)

pub has_come : (place : Place) (left : ℕ) (log : List Item) → IsAhead place left log → left ≡ 0 → entered place log ≡ place.n
has_come place left log h none = omega (arith, h, none)

-- A failure that hasn't begun fails nowhere

still_less : (n a b : ℕ) → a ≤ b → nat_le n b ≡ false → nat_le n a ≡ false
still_less n a b l h = of (nat_le n a) refl
  where
    of : (x : Bool) → nat_le n a ≡ x → x ≡ false
    of true e = absurd (grind (arith, nat_tests, l, h, e))
    of false e = refl

not_come : (n a : ℕ) → a < n → nat_le n a ≡ false
not_come n a l = of (nat_le n a) refl
  where
    of : (x : Bool) → nat_le n a ≡ x → x ≡ false
    of true e = absurd (grind (arith, nat_tests, l, e))
    of false e = refl

not_this : (n a : ℕ) → nat_le n a ≡ false → (a == n) ≡ false
not_this n a h = of (a == n) refl
  where
    of : (x : Bool) → (a == n) ≡ x → x ≡ false
    of true e = absurd (grind (arith, nat_tests, h, e))
    of false e = refl

and_false : (b : Bool) → (b && false) ≡ false
and_false true = refl
and_false false = refl

pub not_begun : (place : Place) (x : Kind) (log : List Item) → entered place log < place.n → has_begun (fault_at place x) log ≡ false
not_begun place x log ahead = not_come place.n (entered place log) ahead

pub begun_later : (f : Fault) (past last log : List Item) → log ≡ past ++ last → has_begun f log ≡ false → has_begun f past ≡ false
begun_later f past last log is h =
    still_less f.n (entries f.pid f.call past) (entries f.pid f.call log)
    (subst (λ l. entries f.pid f.call past ≤ entries f.pid f.call l) (sym is) (more_still (is_entry f.pid f.call) past last)) h

pub at_none : (f : Fault) (k : Run) (p : ℕ) → has_begun f k.running.log ≡ false → is_at f k p ≡ false
unfolding is_at
at_none f k p h = of (is_world f.kind)
  where
    of : (b : Bool) → cond b (has_begun f k.running.log && is_due f.kind f.call k p) ((p == f.pid) && ((entries f.pid f.call k.running.log == f.n) && is_due f.kind f.call k p)) ≡ false
    of true = ap (λ b. b && is_due f.kind f.call k p) h
    of false =
        ap (λ b. (p == f.pid) && (b && is_due f.kind f.call k p)) (not_this f.n (entries f.pid f.call k.running.log) h)
        ∙ and_false (p == f.pid)

ends_none : (f : Fault) (k : Run) (p : ℕ) → has_begun f k.running.log ≡ false → ends_at f k p ≡ false
ends_none f k p h = ap (λ b. is_stop f.kind && b) (at_none f k p h) ∙ and_false (is_stop f.kind)

-- A row

module _ (k b k' : Run) (p made turns : ℕ) (item : Option Item)
    (before : (f : Fault) → has_begun f b.running.log ≡ false → (has_begun f k.running.log ≡ false) × Made f k p made b)
    (row : (f : Fault) → is_at f b p ≡ false → InRow f b p (turns - 1) k') where
  pub row_before : (place : Place) (left : ℕ) → IsAhead place left b.running.log → 0 < left → k'.running.log ≡ b.running.log ++ option_to_list item
      → Before place k'.running.log (λ f. (has_begun f k.running.log ≡ false) × InRow f k p (made + (turns - 1)) k')
  row_before place left h some logged = record {
    past = b.running.log;
    last = option_to_list item;
    logged = logged;
    ahead = comes_later place left b.running.log h some;
    holds = λ f waits. (
      (before f waits).0,
      made_more f f made (turns - 1) k b k' p refl (before f waits).1 (row f (at_none f b p waits)),
    );
  }

  pub row_on : k'.running.log ≡ b.running.log ++ option_to_list item → Continues (readiness_of k') p → (f : Fault) → has_begun f k'.running.log ≡ false
      → (has_begun f k.running.log ≡ false) × Made f k p (made + (turns - 1) + 1) k'
  row_on logged on f waits =
      let early : has_begun f b.running.log ≡ false = begun_later f b.running.log (option_to_list item) k'.running.log logged waits in (
        (before f early).0,
        made_now f f (made + (turns - 1)) (made + (turns - 1) + 1) k k' p refl refl
            (made_more f f made (turns - 1) k b k' p refl (before f early).1 (row f (at_none f b p early)))
            (on, ends_none f k' p waits),
      )

-- A run

pub leads_nowhere : (k : Run) (s : Schedule) → LeadsOn k s k s
leads_nowhere k s f waits = (waits, λ z rest. rest)

module _ (place : Place) (k b : Run) (s t : Schedule) (before : LeadsOn k s b t) (ahead : entered place b.running.log < place.n) where
  pub ends_there : (t' : Schedule) → record { pid = None; schedule = t' } ≡ next_turn_of t (readiness_of b) → EndsBefore place k s b
  ends_there t' none x =
      let f : Fault = fault_at place x in
      (before f (not_begun place x b.running.log ahead)).1 b (ended_is f b t (nobody_next f b t t' none))

  module _ (p : ℕ) (t' u : Schedule) (k' : Run) (given : record { pid = Some p; schedule = t' } ≡ next_turn_of t (readiness_of b))
      (turned : Before place k'.running.log
      (λ f. (has_begun f b.running.log ≡ false) × ((z : Run) → RunsFaulted f k' u z → RunsFaulted f (after_fault f b p) t' z))) where
    through : (f : Fault) → has_begun f turned.past ≡ false → (has_begun f k.running.log ≡ false) × RunsThrough f k s k' u
    through f waits =
        let it = turned.holds f waits in
        let early = before f it.0 in (
          early.0,
          λ z rest. early.1 z
              (turn_is f b t p t' z (next_is f b t p t' (sym (ends_none f b p it.0)) given)
              (ap (λ (x : GivenTurn). x.schedule) given) (it.1 z rest)),
        )

    pub leads_later : LeadsOn k s k' u
    leads_later f waits = through f (begun_later f turned.past turned.last k'.running.log turned.logged waits)

    pub stands_there : (left : ℕ) → entered place k.running.log < place.n → IsAhead place left k'.running.log → left ≡ 0 → StandsAt place k s k' u
    stands_there left first h none = record {
      ahead = first;
      there = has_come place left k'.running.log h none;
      leads = λ x. (through (fault_at place x) (not_begun place x turned.past turned.ahead)).1;
      on = leads_later;
    }
