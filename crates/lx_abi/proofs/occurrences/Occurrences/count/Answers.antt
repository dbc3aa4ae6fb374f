use Rattle.std.proofs.Common.{◌≡◌, ℕ, ◌+◌, cond, Some, Option, ap, ◌∙◌, subst, unwrap_or, rules}
use Rattle.std.specs.Prelude.{IsSome}
use Rattle.std.specs.Ordering.{is_eq}
use Rattle.std.specs.BTreeMap.{get}
use Rattle.lx_abi.specs.Occurrences.{pair_cmp}
use Rattle.lx_abi.proofs.Counting.{same_pair, one_more}
use Rattle.lx_abi.proofs.occurrences.Occurrences.count.Goals as goal

pub returns-in-Some-checked_add : goal.returns-in-Some-checked_add
returns-in-Some-checked_add c = λ p n.
    let a = c.args in
    let old : ℕ → ℕ → Option ℕ = λ q m. get pair_cmp a.self.now.counts (q, m) in
    let next = c.in-Some-checked_add.next in
    let there : IsSome (old a.pid a.number) = subst (λ o. IsSome o) c.in-Some.ensures.value (search rules) in
    let more : next ≡ unwrap_or (old a.pid a.number) 0 + 1 = c.in-Some-checked_add.ensures.1 ∙ ap (λ o. unwrap_or o 0 + 1) c.in-Some.ensures.value in
    ap (λ o. unwrap_or o 0) (((c.get_mut.follows.holds next).3 there).0 (p, n) ∙ ap (λ b. cond b (Some next) (old p n)) (same_pair a.pid a.number p n))
    ∙ one_more old a.pid a.number p n next more

pub returns-in_ok-insert-in-None : goal.returns-in_ok-insert-in-None
returns-in_ok-insert-in-None c = λ p n.
    let a = c.args in
    let old : ℕ → ℕ → Option ℕ = λ q m. get pair_cmp a.self.now.counts (q, m) in
    let first : 1 ≡ unwrap_or (old a.pid a.number) 0 + 1 = ap (λ o. unwrap_or o 0 + 1) c.in-None.ensures.value in
    ap (λ o. unwrap_or o 0) (c.in_ok-insert-in-None.ensures.updates.0 (p, n)
    ∙ ap (λ m. cond (is_eq (pair_cmp (a.pid, a.number) (p, n))) (Some 1) (get pair_cmp m (p, n))) c.get_mut.follows.holds-at-none
    ∙ ap (λ b. cond b (Some 1) (old p n)) (same_pair a.pid a.number p n))
    ∙ one_more old a.pid a.number p n 1 first
