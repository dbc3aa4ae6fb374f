-- What was written so far, and a write more.
use Rattle.std.proofs.Common.{◌≡◌, ℕ, ◌-◌, List, ◌++◌, length, take, drop, Option, ap, ◌∙◌, append_assoc, take-append-drop}
use Rattle.std.specs.Io.KnownBytes.{Appends, Keeps}
use Rattle.std.proofs.lemmas.List.{take_rest}
use Rattle.std.proofs.KnownBytes.{Appends-trans, Appends-kept}

abbrev WrittenSoFar : List ℕ → Option (List ℕ) → Option (List ℕ) → List ℕ → Type 0
WrittenSoFar bytes a b rest = (done : List ℕ) × ((done ++ rest ≡ bytes) × Appends a b done)

pub written_more : (a b c : Option (List ℕ)) (bytes rest rest' : List ℕ) (n : ℕ) → rest' ≡ take (length rest - n) (drop n rest) → WrittenSoFar bytes a b rest → Appends b c (take n rest) → WrittenSoFar bytes a c rest'
written_more a b c bytes rest rest' n is so_far more =
    let joined : (so_far.0 ++ take n rest) ++ rest' ≡ bytes =
    ap (λ (t : List ℕ). (so_far.0 ++ take n rest) ++ t) (is ∙ take_rest rest n) ∙ append_assoc so_far.0 (take n rest) (drop n rest) ∙ ap (λ (t : List ℕ). so_far.0 ++ t) (take-append-drop n rest) ∙ so_far.1.0 in
    (so_far.0 ++ take n rest, (joined, Appends-trans a b c so_far.0 (take n rest) so_far.1.1 more))

pub written_same : (a b c : Option (List ℕ)) (bytes rest rest' : List ℕ) → rest' ≡ rest → WrittenSoFar bytes a b rest → Keeps b c → WrittenSoFar bytes a c rest'
written_same a b c bytes rest rest' is so_far kept =
    (so_far.0, (ap (λ (t : List ℕ). so_far.0 ++ t) is ∙ so_far.1.0, Appends-kept a b c so_far.0 so_far.1.1 kept))
