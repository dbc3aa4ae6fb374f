-- Lines are like themselves.
use Rattle.std.proofs.Common.{ℕ, Bool, true, false, List, [], ◌∷◌, eqb, refl}
use Rattle.sweep_words.specs.Known.{IsBehind, IsLike}

behind : (b : Bool) (c : ℕ) (cs : List ℕ) → IsLike cs cs → IsBehind b c (λ rest. IsLike rest cs) (c ∷ cs)
behind true c cs rest = (c ∷ [], cs, refl, rest)
behind false c cs rest = (cs, refl, rest)

pub like_itself : (line : List ℕ) → IsLike line line
like_itself [] = refl
like_itself (c ∷ cs) = behind (eqb c 42) c cs (like_itself cs)
