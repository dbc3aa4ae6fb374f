-- Where a signal is pending at all, and where none is.
use Rattle.std.proofs.Common.{◌≡◌, ℕ, zero, suc, ◌<◌, Bool, true, false, cond, not, ◌&&◌, Option, Some, None, is_some, List, [], ◌∷◌, length, get_or, set, refl, ap, ◌∙◌, arith}
use Rattle.std.specs.List.{list_any, find}
use Rattle.lx_abi.specs.declared.log.Cause.{Cause}
use Rattle.lx_sig.specs.Pending.{Signals, may_come}
use Rattle.lx_sig.specs.Sets.{has}

pub one_pending : (causes : List (Option Cause)) (n : ℕ) (cause : Cause) → n < length causes → list_any is_some (set causes n (Some cause)) ≡ true
one_pending (old ∷ causes) zero cause within = refl
one_pending (Some old ∷ causes) (suc n) cause within = refl
one_pending (None ∷ causes) (suc n) cause within = one_pending causes n cause (omega (arith, within))
one_pending [] n cause within = let no : zero ≡ 1 = omega (arith, within) in absurd (cc no)

not_pending : (causes : List (Option Cause)) → list_any is_some causes ≡ false → (n : ℕ) → is_some (get_or causes n None) ≡ false
not_pending [] none n = refl
not_pending (Some cause ∷ causes) none n = absurd (cc none)
not_pending (None ∷ causes) none zero = refl
not_pending (None ∷ causes) none (suc n) = not_pending causes none n

pub is_none : (b r : Bool) → r ≡ not b → r ≡ true → b ≡ false
is_none false r e holds = refl
is_none true r e holds = absurd (cc (e, holds))

-- nothing comes where nothing is pending
pub nothing_comes : (s : Signals) → list_any is_some s.pending ≡ false → (ns : List ℕ) → find (may_come s) ns ≡ None
nothing_comes s none [] = refl
nothing_comes s none (n ∷ ns) =
    ap (λ b. cond (b && not (has s.mask n)) (Some n) (find (may_come s) ns)) (not_pending s.pending none n)
    ∙ nothing_comes s none ns
