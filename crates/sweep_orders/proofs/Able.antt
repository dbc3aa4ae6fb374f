-- Who can go on.
use Rattle.std.proofs.Common.{◌<◌, ◌≤◌, ◌%◌, ℕ, zero, suc, List, [], ◌∷◌, length, get_or, Some, None, arith}
use Rattle.std.proofs.Math.Nat.{mod-lt}
use Rattle.lx_kernel.specs.Runs.{Run}
use Rattle.lx_kernel.specs.Scheduling.{IsNextAble}
use Rattle.sweep_orders.specs.Draws.{chosen, IsNextAbove, AreAble}

module _ (k : Run) where
  pub next_is : (last p : ℕ) → IsNextAble k last p → last < p → IsNextAbove k last (Some p)
  next_is last p it l = (l, it.able, λ q a b on. let most = (it.above q a on).1 in absurd (omega (arith, most, b)))

  -- the cycle of pids begins anew
  pub none_above : (last p : ℕ) → IsNextAble k last p → p ≤ last → IsNextAbove k last None
  none_above last p it l q a on = let more = (it.above q a on).0 in absurd (omega (arith, more, l))

  above : (last : ℕ) (ps : List ℕ) (i : ℕ) → AreAble k last ps → i < length ps → last < get_or ps i 0
  above last [] i h l = absurd (omega (arith, l))
  above last (p ∷ ps) zero h l = h.0.0
  above last (p ∷ ps) (suc i) h l =
      let more = above p ps i h.1 (omega (arith, l)) in
      let first = h.0.0 in omega (arith, more, first)

  -- one that is chosen has a pid
  pub chosen_above : (ps : List ℕ) (word : ℕ) → AreAble k 0 ps → 0 < length ps → 0 < chosen ps word
  chosen_above ps word able some = above 0 ps (word % length ps) able (mod-lt word some)
