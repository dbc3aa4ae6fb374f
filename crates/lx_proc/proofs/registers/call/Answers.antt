use Rattle.std.proofs.Common.{◌≡◌, ◌<◌, ℕ, suc, ◌∷◌, [], get_or, drop, sym, lit<}
use Rattle.lx_proc.specs.Registers.{padded}
use Rattle.lx_proc.proofs.Padding.{later_register}
use Rattle.lx_proc.proofs.registers.call.Goals as goal

pub returns : goal.returns
returns c =
    let x : (n : ℕ) → n < 31 → get_or c.args.user.now.hart.registers (suc n) 0 ≡ get_or (padded 31 (drop 1 c.args.user.now.hart.registers)) n 0 = λ n h. sym (later_register 31 n c.args.user.now.hart.registers h) in
    λ i. record { number = x 16 (lit< tt) i; arguments = x 9 (lit< tt) i ∷ x 10 (lit< tt) i ∷ x 11 (lit< tt) i ∷ x 12 (lit< tt) i ∷ x 13 (lit< tt) i ∷ x 14 (lit< tt) i ∷ [] }
