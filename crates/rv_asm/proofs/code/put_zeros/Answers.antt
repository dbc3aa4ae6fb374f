use Rattle.std.proofs.Common.{◌≡◌, ℕ, suc, ◌+◌, ◌-◌, ◌<◌, List, [], ◌∷◌, ◌++◌, sym, ◌∙◌, append_assoc, arith}
use Rattle.std.specs.Prelude.{replicate}
use Rattle.rv_asm.proofs.code.put_zeros.Goals as goal

zero_next : (front total : List ℕ) (n i : ℕ) → i < n → front ++ replicate (n - i) 0 ≡ total → (front ++ 0 ∷ []) ++ replicate (n - (i + 1)) 0 ≡ total
zero_next front total n i lt so_far =
    let k : n - i ≡ suc (n - (i + 1)) = omega arith in
    let one : front ++ replicate (n - i) 0 ≡ (front ++ 0 ∷ []) ++ replicate (n - (i + 1)) 0 = rw k (sym (append_assoc front (0 ∷ []) (replicate (n - (i + 1)) 0))) in
    sym one ∙ so_far

pub loop-preserved : goal.loop-preserved
loop-preserved c = rw c.in_ok-push.ensures.items (zero_next c.loop.out.items _ c.args.count c.loop.counter c.loop-test.true c.loop.invariant)
