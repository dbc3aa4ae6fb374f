-- Orders that are drawn, step by step.
use Rattle.std.proofs.Common.{◌≡◌, ◌<◌, ◌++◌, ℕ, Bool, true, false, List, [], ◌∷◌, length, ap, sym, subst, ◌∙◌, arith}
use Rattle.std.specs.Prelude.{◌==◌}
use Rattle.lx_kernel.specs.Runs.{Run}
use Rattle.rand_pcg.specs.Lcg.{Lcg}
use Rattle.rand_pcg.specs.Pcg.{pcg32}
use Rattle.sweep_orders.specs.Draws.{chosen, AreAble, IsStep, IsDrawn}
use Rattle.sweep_orders.proofs.Stepping.{some_more}
use Rattle.turn_orders.proofs.Lists.{snoc_append}

-- a step is drawn, and then the others
pub one_drawn : (ps : List ℕ) (left : ℕ) (k k' z : Run) (chance later : Lcg) (able : List ℕ) (word p after : ℕ) → AreAble k 0 able → 0 < length able
    → p ≡ chosen able word → (word, later) ≡ pcg32 chance → IsStep left k p after k' → IsDrawn ps after k' later z → IsDrawn (p ∷ ps) left k chance z
one_drawn ps left k k' z chance later able word p after are some is next step rest = (
  after,
  k',
  record { able = able; are_able = are; some = some; drawn = is ∙ ap (λ (x : ℕ × Lcg). chosen able x.0) next; step = step },
  subst (λ (x : ℕ × Lcg). IsDrawn ps after k' x.1 z) next rest,
)

pub pushed : (pids more ps : List ℕ) (p : ℕ) → more ≡ pids ++ p ∷ [] → pids ++ p ∷ ps ≡ more ++ ps
pushed pids more ps p e = sym (ap (λ xs. xs ++ ps) e ∙ snoc_append pids p ps)

-- nobody is listed
pub none_listed : (k : Run) (able : List ℕ) (b : Bool) → b ≡ (length able == 0) → b ≡ true → AreAble k 0 able → AreAble k 0 []
none_listed k [] b e t are = are
none_listed k (p ∷ ps) b e t are = absurd (cc (sym t ∙ e ∙ some_more (length (p ∷ ps)) (omega arith)))

-- or some are
pub some_listed : (able : List ℕ) (b : Bool) → b ≡ (length able == 0) → b ≡ false → 0 < length able
some_listed [] b e f = absurd (cc (sym f ∙ e))
some_listed (p ∷ ps) b e f = omega arith
