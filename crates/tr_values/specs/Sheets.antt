-- A sheet: text under way, and the byte strings that were read for it, those not looked at yet.
use Rattle.std.specs.Prelude.{◌≡◌, ℕ, List, [], ◌∷◌, ◌++◌, Result, Ok, Err, ⊤}
use Rattle.std.specs.Borrow.{Bor}
use Rattle.tr_values.specs.declared.sheet.Needed.{Needed}
use Rattle.tr_values.specs.declared.sheet.Needed.TheVariants.{Wants as Stops, Memory}

pub record Sheet : Type 0 where
  pub out : List ℕ
  pub left : List (List ℕ)

-- more is shown, or so many bytes at this address are read first
pub data Shown : Type 0 where
  Has : Sheet → Shown
  Wants : ℕ → ℕ → Shown

infixl 10 ◌>>=◌
abbrev pub ◌>>=◌ : Shown → (Sheet → Shown) → Shown
Has s >>= f = f s
Wants address length >>= f = Wants address length

-- text after the text so far
abbrev pub put : List ℕ → Sheet → Shown
put text s = Has (record { out = s.out ++ text; left = s.left })

-- the next byte string goes to f
abbrev pub reads_from : ℕ → ℕ → (List ℕ → Sheet → Shown) → List ℕ → List (List ℕ) → Shown
reads_from address length f out [] = Wants address length
reads_from address length f out (bytes ∷ left) = f bytes (record { out = out; left = left })

abbrev pub reads : ℕ → ℕ → (List ℕ → Sheet → Shown) → Sheet → Shown
reads address length f s = reads_from address length f s.out s.left

-- what a function that shows a part left
abbrev pub Leaves : Result (Unit {0}) Needed → Sheet → Shown → Type 0
Leaves (Ok u) s shown = shown ≡ Has s
Leaves (Err (Stops address length)) s shown = shown ≡ Wants address length
Leaves (Err Memory) s shown = ⊤

-- what a read of so many bytes at this address left: the bytes, or the wish for them
abbrev pub HasRead : Result (Bor (List ℕ)) Needed → ℕ → ℕ → Sheet → Sheet → Type 0
HasRead (Ok bytes) address length s t = s ≡ record { out = t.out; left = bytes.now ∷ t.left }
HasRead (Err stop) address length s t = (s.left ≡ []) × (stop ≡ Stops address length) × (t ≡ s)
