-- The list of tracees, over keys with the newest last.
use Rattle.std.proofs.Common.{◌≡◌, ℕ, Bool, true, false, List, [], ◌∷◌, ◌++◌, ◌||◌, refl, ap}
use Rattle.std.specs.Prelude.{nat_eq, if◌then◌else◌}
use Rattle.std.specs.List.{list_any}
use Rattle.pt_model.specs.Tracer.{is_among, with_tracee}

among-is : (p : ℕ) (ks : List ℕ) → is_among p ks ≡ list_any (nat_eq p) ks
among-is p [] = refl
among-is p (k ∷ ks) = ap (λ b. nat_eq p k || b) (among-is p ks)

pub insert-is : (ks : List ℕ) (p : ℕ) → (if list_any (nat_eq p) ks then ks else ks ++ p ∷ []) ≡ with_tracee ks p
insert-is ks p = go (list_any (nat_eq p) ks) (among-is p ks)
  where
    go : (b : Bool) → is_among p ks ≡ b → (if b then ks else ks ++ p ∷ []) ≡ with_tracee ks p
    go true e = rw e refl
    go false e = rw e refl
