-- The next process in the cycle of pids.
use Rattle.std.proofs.Common.{◌≡◌, ℕ, ◌+◌, ◌≤◌, Bool, true, false, Option, Some, None, inl, inr, refl, subst, arith}
use Rattle.std.specs.Prelude.{nat_le, IsSome}
use Rattle.std.specs.Ordering.{nat_cmp}
use Rattle.std.specs.FinMap.{FinMap}
use Rattle.containers.specs.Keys.{IsNextKey}
use Rattle.lx_proc.specs.declared.state.Shared.{Shared}
use Rattle.lx_kernel.specs.Runs.{Run, is_able_in}
use Rattle.lx_kernel.specs.Scheduling.{can_turn_in}
use Rattle.lx_kernel.specs.Scheduling.{Tasks, AreUnable, IsFirstFrom, IsNextIn, IsNextOf}
use Rattle.lx_kernel.specs.Sleeping.{AreOthersBlocked}
use Rattle.lx_kernel.proofs.Moving.{able_where_turns}
use Rattle.lx_kernel.proofs.Sleeping.{below}

module _ (k : Run) where
  abbrev can : ℕ → Bool
  can q = can_turn_in k.running.shared k.running.tasks q

  able_there : (q : ℕ) → can q ≡ true → is_able_in k q
  able_there q e = (able_where_turns k q).0 e

  not_able : (q : ℕ) → can q ≡ false → is_able_in k q → ⊥
  not_able q e able = let h : can q ≡ true = (able_where_turns k q).1 able in cc

  pub next_above : (after pid : ℕ) → IsFirstFrom k.running.shared k.running.tasks (after + 1) (Some pid) → IsNextOf k after (Some pid)
  next_above after pid h =
      let low = h.0 in
      record {
        able = able_there pid h.1;
        above = λ q lt able. (omega (arith, low), below pid q (pid ≤ q) (nat_le pid q) refl (λ le. le) (λ less. absurd (not_able q (h.2 q (omega arith) less) able)));
        else_first = λ le. absurd (omega (arith, low));
      }

  pub next_first : (after : ℕ) (o : Option ℕ) → IsFirstFrom k.running.shared k.running.tasks (after + 1) None → IsFirstFrom k.running.shared k.running.tasks 0 o → IsNextOf k after o
  next_first after None none h = λ q able. not_able q (h q (omega arith)) able
  next_first after (Some pid) none h = record {
    able = able_there pid h.1;
    above = λ q lt able. absurd (not_able q (none q (omega arith)) able);
    else_first = λ le q able. below pid q (pid ≤ q) (nat_le pid q) refl (λ le. le) (λ less. absurd (not_able q (h.2 q (omega arith) less) able));
  }

  next_of : (after : ℕ) (o : Option ℕ) → IsSome o → IsFirstFrom k.running.shared k.running.tasks (after + 1) o → IsNextOf k after o
  next_of after None some h = absurd (cc some)
  next_of after (Some pid) some h = next_above after pid h

  pub next_in : (after : ℕ) (o : Option ℕ) → IsNextIn k.running.shared k.running.tasks after o → IsNextOf k after o
  next_in after o h = elim h [ inl above ↦ next_of after o above.0 above.1 | inr first ↦ next_first after o first.0 first.1 ]

module _ {X : Type 0} (keys : FinMap nat_cmp X) (s : Shared) (tasks : Tasks) (blocked : AreOthersBlocked keys s tasks) (after passed : ℕ) (low : after ≤ passed) (unable : AreUnable s tasks (after + 1) (passed + 1)) where
  -- none up to the next key
  pub unable_before : (pid : ℕ) → IsNextKey keys passed (Some pid) → AreUnable s tasks (after + 1) pid
  unable_before pid next = λ q from to. below q passed (can_turn_in s tasks q ≡ false) (nat_le q passed) refl
      (λ le. unable q from (omega (arith, le)))
      (λ lt. blocked q (omega (arith, lt)) (next.2 q lt to))

  pub unable_upto : (pid : ℕ) → IsNextKey keys passed (Some pid) → can_turn_in s tasks pid ≡ false → AreUnable s tasks (after + 1) (pid + 1)
  unable_upto pid next here = λ q from to. below pid q (can_turn_in s tasks q ≡ false) (nat_le pid q) refl
      (λ ge. subst (λ n. can_turn_in s tasks n ≡ false) (let same : pid ≡ q = omega (arith, ge, to) in same) here)
      (λ lt. unable_before pid next q from lt)

  pub unable_all : IsNextKey keys passed None → IsFirstFrom s tasks (after + 1) None
  unable_all last = λ q from. below q passed (can_turn_in s tasks q ≡ false) (nat_le q passed) refl
      (λ le. unable q from (omega (arith, le)))
      (λ lt. blocked q (omega (arith, lt)) (last q lt))
