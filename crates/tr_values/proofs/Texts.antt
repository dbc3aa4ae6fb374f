-- Bytes that are a text.
use Rattle.std.proofs.Common.{List, ℕ, Result, Ok, Err, refl}
use Rattle.std.specs.Prelude.{MatchResult, IsOk}
use Rattle.std.specs.Str.{IsUtf8}

-- a reader of texts takes them
pub is_text : {S E : Type 0} (bs : List ℕ) (P : S → Type 0) (r : Result S E)
    → MatchResult r P (λ _. ¬ (IsUtf8 bs)) → IsUtf8 bs → IsOk r
is_text bs P (Ok s) h u = refl
is_text bs P (Err e) h u = absurd (h u)
