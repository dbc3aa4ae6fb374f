-- The register of a number.
use Rattle.std.specs.Prelude.{ℕ, ◌%◌, ◌<◌}
use Rattle.std.proofs.Common.{lit<}
use Rattle.std.proofs.Math.Nat.{mod-lt}
use Rattle.rv_isa.specs.declared.register.Register.{Register}

pub below : (n : ℕ) → n % 32 < 32
below n = mod-lt n (lit< tt)

unfoldable pub numbered : ℕ → Register
numbered n = record { number = n % 32; in_range = below n }
