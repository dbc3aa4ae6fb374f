-- A register is its number.
use Rattle.std.proofs.Common.{◌≡◌, ℕ, ◌<◌}
use Rattle.std.proofs.Math.Bridge.{le_prop}
use mathlib.Core.HLevel.{Σ_prop_path}
use Rattle.rv_isa.specs.declared.register.Register.{Register}

pub same_register : (a b : Register) → a.number ≡ b.number → a ≡ b
same_register a b e =
    let pairs : ◌≡◌ {A = (n : ℕ) × (n < 32)} (a.number, a.in_range) (b.number, b.in_range) = Σ_prop_path (λ n. le_prop) e in
    λ i. record { number = (pairs i).0; in_range = (pairs i).1 }
