-- Turns of a step.
use Rattle.std.proofs.Common.{◌≡◌, ◌<◌, ◌≤◌, ◌-◌, ◌+◌, ℕ, zero, suc, Bool, true, false, not, refl, sym, subst, ◌∙◌, arith}
use Rattle.std.specs.Prelude.{◌==◌, ◌&&◌, ◌||◌}
use Rattle.std.proofs.lemmas.Bool.Decides.{nat_tests}
use Rattle.lx_kernel.specs.Runs.{Run, after_turn}
use Rattle.plain_run.specs.InRows.{InRow}
use Rattle.pt_schedule.specs.Untraced.{readiness_of}
use Rattle.sweep_orders.specs.Draws.{is_over, Turns, IsStep}

pub some_more : (n : ℕ) → 0 < n → (n == 0) ≡ false
some_more n l = grind (arith, nat_tests)

-- a process that can go on does, where its last turn didn't begin at the end of a call
not_over : (left : ℕ) (k : Run) (p : ℕ) (f : Bool) → 0 < left → (readiness_of k).able p ≡ true → f ≡ false
    → is_over left k p f ≡ false
not_over left k p f l able e = go (left == 0) ((readiness_of k).able p) f ((readiness_of k).finished p) (some_more left l) able e
  where
    go : (z a b d : Bool) → z ≡ false → a ≡ true → b ≡ false → (z || not (a && not (b && not d))) ≡ false
    go true a b d e f g = absurd (cc e)
    go false false b d e f g = absurd (cc f)
    go false true true d e f g = absurd (cc g)
    go false true false d e f g = refl

-- a row of turns from a step's beginning on, of which only a lone one begins at the end of a call
record Row (m : ℕ) (k : Run) (p : ℕ) (f : Bool) (k' : Run) : Type 0 where
  finished : f ≡ (readiness_of k).finished p
  lone : 0 < m → f ≡ false
  row : InRow k p m k'

-- at its end the step is over
row_ends : (m left : ℕ) (k k' : Run) (p : ℕ) (f : Bool) → Row m k p f k' → m < left → is_over (left - suc m) k' p f ≡ true
    → Turns m left k p k'
unfolding InRow
row_ends zero left k k' p f r l over = (
  omega (arith, l),
  subst (λ (x : Run). is_over (left - 1) x p ((readiness_of k).finished p) ≡ true) r.row
      (subst (λ b. is_over (left - 1) k' p b ≡ true) r.finished over),
  r.row,
)
row_ends (suc m) left k k' p f r l over =
    let e : f ≡ false = r.lone (omega arith) in
    let less : left - suc (suc m) ≡ (left - 1) - suc m = omega arith in (
      omega (arith, l),
      not_over (left - 1) (after_turn k p) p ((readiness_of k).finished p) (omega (arith, l)) r.row.0.able (sym r.finished ∙ e),
      row_ends m (left - 1) (after_turn k p) k' p false
          (record { finished = sym r.row.0.within; lone = λ _. refl; row = r.row.1 }) (omega (arith, l))
          (subst (λ n. is_over n k' p false ≡ true) less (subst (λ b. is_over (left - suc (suc m)) k' p b ≡ true) e over)),
    )

-- or it goes on
row_on : (m n i left : ℕ) (k k' z : Run) (p : ℕ) (f : Bool) → i ≡ m + n → Row m k p f k' → m < left
    → is_over (left - suc m) k' p f ≡ false → Turns n (left - suc m) k' p z → Turns (suc i) left k p z
unfolding InRow
row_on zero n i left k k' z p f is r l over more =
    let same : n ≡ i = omega (arith, is) in
    subst (λ j. Turns (suc j) left k p z) same (
      omega (arith, l),
      subst (λ (x : Run). is_over (left - 1) x p ((readiness_of k).finished p) ≡ false) r.row
          (subst (λ b. is_over (left - 1) k' p b ≡ false) r.finished over),
      subst (λ (x : Run). Turns n (left - 1) x p z) r.row more,
    )
row_on (suc m) n i left k k' z p f is r l over more =
    let e : f ≡ false = r.lone (omega arith) in
    let less : left - suc (suc m) ≡ (left - 1) - suc m = omega arith in
    let same : suc (m + n) ≡ i = omega (arith, is) in (
      omega (arith, l),
      not_over (left - 1) (after_turn k p) p ((readiness_of k).finished p) (omega (arith, l)) r.row.0.able (sym r.finished ∙ e),
      subst (λ j. Turns j (left - 1) (after_turn k p) p z) same
          (row_on m n (m + n) (left - 1) (after_turn k p) k' z p false refl
          (record { finished = sym r.row.0.within; lone = λ _. refl; row = r.row.1 }) (omega (arith, l))
          (subst (λ j. is_over j k' p false ≡ false) less (subst (λ b. is_over (left - suc (suc m)) k' p b ≡ false) e over))
          (subst (λ j. Turns n j k' p z) less more)),
    )

-- a step that goes on has turns left
pub some_left : (left : ℕ) (k : Run) (p : ℕ) (f : Bool) → is_over left k p f ≡ false → 0 < left
some_left zero k p f e = absurd (cc e)
some_left (suc n) k p f e = omega arith

lone_turn : (f : Bool) (most a : ℕ) → (f ≡ true → most ≡ 1) → a ≤ most → 0 < a - 1 → f ≡ false
lone_turn false most a one l h = refl
lone_turn true most a one l h = let e = one refl in absurd (omega (arith, e, l, h))

-- so many turns, made at once
module _ (left a most : ℕ) (k k' : Run) (p : ℕ) (f : Bool) (finished : f ≡ (readiness_of k).finished p) (one : f ≡ true → most ≡ 1)
    (some : 0 < a) (few : a ≤ most) (within : most ≤ left) (row : InRow k p (a - 1) k') where
  abbrev made : Row (a - 1) k p f k'
  made = record { finished = finished; lone = lone_turn f most a one few; row = row }

  same : left - a ≡ left - suc (a - 1)
  same = omega (arith, some)

  pub step_ends : is_over (left - a) k' p f ≡ true → IsStep left k p (left - a) k'
  step_ends over = record {
    more = a - 1;
    turns = row_ends (a - 1) left k k' p f made (omega (arith, some, few, within)) (subst (λ n. is_over n k' p f ≡ true) same over);
    after_is = same;
  }

  pub step_goes_on : is_over (left - a) k' p f ≡ false → (after : ℕ) (z : Run) → IsStep (left - a) k' p after z → IsStep left k p after z
  step_goes_on over after z s = record {
    more = suc ((a - 1) + s.more);
    turns = row_on (a - 1) s.more ((a - 1) + s.more) left k k' z p f refl made (omega (arith, some, few, within))
        (subst (λ n. is_over n k' p f ≡ false) same over) (subst (λ n. Turns s.more n k' p z) same s.turns);
    after_is = let is = s.after_is in omega (arith, is, some);
  }
