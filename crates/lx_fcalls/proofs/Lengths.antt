-- How many bytes are read.
use Rattle.std.proofs.Common.{◌≡◌, ℕ, zero, suc, ◌+◌, length, refl, ap}
use Rattle.rv_mem.specs.Memory.{Memory, bytes_at}

pub length_bytes_at : (m : Memory) (a n : ℕ) → length (bytes_at m a n) ≡ n
unfolding bytes_at
length_bytes_at m a zero = refl
length_bytes_at m a (suc n) = ap suc (length_bytes_at m (a + 1) n)
