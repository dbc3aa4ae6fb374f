-- How much a text reads: each read has 1 to 4,096 bytes, and there are no more than the cost of its arguments.
use Rattle.std.proofs.Common.{ℕ, ◌≡◌, ◌≤◌, ◌<◌, ◌+◌, Bool, true, false, if◌then◌else◌, List, [], ◌∷◌, length, refl, arith}
use Rattle.pt_model.specs.Requests.{may_peek}
use Rattle.tr_values.specs.Sheets.{Sheet, Shown, Has, Wants, put, reads, reads_from, ◌>>=◌}

abbrev pub Bounded : ℕ → Sheet → Shown → Type 0
Bounded k s (Has t) = length s.left ≤ length t.left + k
Bounded k s (Wants address n) = (length s.left < k) × (may_peek n ≡ true)

-- it reads no more than so often
abbrev pub Within : ℕ → (Sheet → Shown) → Type 0
Within k f = (s : Sheet) → Bounded k s (f s)

pub put_within : (text : List ℕ) → Within 0 (put text)
put_within text s = omega arith

wider_at : (j k : ℕ) (s : Sheet) (shown : Shown) → j ≤ k → Bounded j s shown → Bounded k s shown
wider_at j k s (Has t) e h = omega arith
wider_at j k s (Wants address n) e h = (omega arith, h.1)

pub wider : (j k : ℕ) (f : Sheet → Shown) → j ≤ k → Within j f → Within k f
wider j k f e h s = wider_at j k s (f s) e (h s)

after_at : (j k : ℕ) (s : Sheet) (shown : Shown) (g : Sheet → Shown) → Bounded j s shown → Within k g → Bounded (j + k) s (shown >>= g)
after_at j k s (Wants address n) g h w = (omega arith, h.1)
after_at j k s (Has t) g h w = more (g t) (w t) where
  more : (shown : Shown) → Bounded k t shown → Bounded (j + k) s shown
  more (Has u) b = omega arith
  more (Wants address n) b = (omega arith, b.1)

pub after : (j k : ℕ) (f g : Sheet → Shown) → Within j f → Within k g → Within (j + k) (λ s. f s >>= g)
after j k f g h w s = after_at j k s (f s) g (h s) w

pub either : (k : ℕ) (b : Bool) (f g : Sheet → Shown) → (b ≡ true → Within k f) → (b ≡ false → Within k g) → Within k (λ s. if b then f s else g s)
either k true f g h w s = h refl s
either k false f g h w s = w refl s

reads_at : (k address n : ℕ) (f : List ℕ → Sheet → Shown) → may_peek n ≡ true → ((bs : List ℕ) → Within k (f bs)) → (out : List ℕ) (left : List (List ℕ)) → Bounded (k + 1) (record { out = out; left = left }) (reads_from address n f out left)
reads_at k address n f e h out [] = (omega arith, e)
reads_at k address n f e h out (bs ∷ left) = more (f bs (record { out = out; left = left })) (h bs (record { out = out; left = left })) where
  more : (shown : Shown) → Bounded k (record { out = out; left = left }) shown → Bounded (k + 1) (record { out = out; left = bs ∷ left }) shown
  more (Has u) b = omega arith
  more (Wants address n) b = (omega arith, b.1)

pub reads_within : (k address n : ℕ) (f : List ℕ → Sheet → Shown) → may_peek n ≡ true → ((bs : List ℕ) → Within k (f bs)) → Within (k + 1) (reads address n f)
reads_within k address n f e h s = reads_at k address n f e h s.out s.left

pub choose : (k : ℕ) (s : Sheet) (b : Bool) (x y : Shown) → Bounded k s x → Bounded k s y → Bounded k s (if b then x else y)
choose k s true x y h w = h
choose k s false x y h w = w
