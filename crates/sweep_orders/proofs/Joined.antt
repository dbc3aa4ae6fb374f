-- Runs, some behind others.
use Rattle.std.proofs.Common.{◌≡◌, ◌-◌, ◌+◌, ℕ, suc, List, [], ◌∷◌, ◌++◌, length, subst, arith, length-append}
use Rattle.sweep_rows.specs.declared.setup.Setup.{Setup}
use Rattle.sweep_orders.specs.Found.{Told, CountsAll}
use Rattle.sweep_orders.specs.Orders.{AreMade, Explores}
use Rattle.turn_orders.specs.Plans.{plan_of}
use Rattle.sweep_orders.specs.Trials.{IsTrial, AreTrials}
use Rattle.turn_orders.specs.declared.plans.Source.{Source}
use Rattle.sweep_orders.specs.declared.trials.Trial.{Trial}

module _ (setup : Setup) (o : Source) where
  trials_joined : (ts us : List Trial) (n : ℕ) → AreTrials setup o n ts → AreTrials setup o (n + length ts) us → AreTrials setup o n (ts ++ us)
  trials_joined [] us n a b = let same : n + 0 ≡ n = omega arith in subst (λ m. AreTrials setup o m us) same b
  trials_joined (t ∷ ts) us n a b =
      let same : n + suc (length ts) ≡ suc n + length ts = omega arith in
      (a.0, trials_joined ts us (suc n) a.1 (subst (λ m. AreTrials setup o m us) same b))

  pub one_made : (ts : List Trial) (t : Trial) (first number : ℕ) → number ≡ first + length ts → AreTrials setup o first ts → IsTrial setup o (plan_of o.switches.items number) t
      → AreTrials setup o first (ts ++ t ∷ [])
  one_made ts t first number is a b =
      trials_joined ts (t ∷ []) first a (subst (λ m. AreTrials setup o m (t ∷ [])) is (b, tt))

  pub made_joined : (n c d all next : ℕ) (ts us : List Trial) → next ≡ n + c → all ≡ c + d → AreMade setup o n c ts → AreMade setup o next d us → AreMade setup o n all (ts ++ us)
  made_joined n c d all next ts us is sum a b =
      let many = a.many in
      let more = b.many in
      let both = length-append ts us in
      let there : next ≡ n + length ts = omega (arith, is, many) in
      record {
        trials = trials_joined ts us n a.trials (subst (λ m. AreTrials setup o m us) there b.trials);
        many = omega (arith, many, more, both, sum);
      }

  counts_joined : (ts us : List Trial) (a b z : Told) → CountsAll ts a b → CountsAll us b z → CountsAll (ts ++ us) a z
  counts_joined [] us a b z h g = subst (λ (x : Told). CountsAll us x z) h g
  counts_joined (t ∷ ts) us a b z h g = (h.0, h.1, counts_joined ts us h.0 b z h.2 g)

  -- some orders more are tried
  pub explored : (n c made : ℕ) (a b z : Told) → made ≡ n + c → Explores setup o 0 n a b → Explores setup o n c b z → Explores setup o 0 made a z
  explored n c made a b z is before more = record {
    trials = before.trials ++ more.trials;
    made = made_joined 0 n c made n before.trials more.trials (let e : n ≡ 0 + n = omega arith in e) is before.made more.made;
    counts = counts_joined before.trials more.trials a b z before.counts more.counts;
  }
