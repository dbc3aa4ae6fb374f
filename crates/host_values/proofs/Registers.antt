-- Registers, read one after the other.
use Rattle.std.proofs.Common.{◌≡◌, ℕ, zero, suc, ◌+◌, ◌*◌, List, [], ◌∷◌, length, take, drop, get_or, refl, sym, ap, ◌∙◌, arith}
use Rattle.std.proofs.lemmas.List.{drop-drop, drop-take}
use Rattle.byteorder.specs.Endian.{little_number, IsRead}
use Rattle.byteorder.specs.Numbers.{little_from-take}
use Rattle.host_values.specs.Reading.{doubles}

pub read_doubles : (n : ℕ) (src dst : List ℕ) → length dst ≡ n → IsRead little_number 8 src dst → doubles n src ≡ dst
read_doubles zero src [] len reads = refl
read_doubles zero src (d ∷ ds) len reads = absurd (omega (arith, len))
read_doubles (suc n) src [] len reads = absurd (omega (arith, len))
read_doubles (suc n) src (d ∷ ds) len reads =
    let first : d ≡ little_number 8 src = reads 0 (omega arith) in
    let rest : IsRead little_number 8 (drop 8 src) ds = λ k lt.
    let one : get_or ds k 0 ≡ little_number 8 (drop (8 * suc k) src) = reads (suc k) (omega arith) in
    let e : 8 * suc k ≡ 8 + 8 * k = omega arith in
    one ∙ ap (λ (m : ℕ). little_number 8 (drop m src)) e ∙ ap (little_number 8) (sym (drop-drop (8 * k) 8 src)) in
    rw (← first, read_doubles n (drop 8 src) ds (omega (arith, len)) rest) refl

pub doubles_take : (n m : ℕ) (bytes : List ℕ) → doubles n (take (8 * n + m) bytes) ≡ doubles n bytes
doubles_take zero m bytes = refl
doubles_take (suc n) m bytes =
    let e : 8 * suc n + m ≡ 8 + (8 * n + m) = omega arith in
    let first : little_number 8 (take (8 + (8 * n + m)) bytes) ≡ little_number 8 bytes = little_from-take 0 8 (8 + (8 * n + m)) bytes (omega arith) in
    let behind : drop 8 (take (8 + (8 * n + m)) bytes) ≡ take (8 * n + m) (drop 8 bytes) = drop-take 8 (8 * n + m) bytes in
    ap (λ (k : ℕ). doubles (suc n) (take k bytes)) e
    ∙ ap (λ (x : ℕ). x ∷ doubles n (drop 8 (take (8 + (8 * n + m)) bytes))) first
    ∙ ap (λ (x : List ℕ). little_number 8 bytes ∷ x) (ap (doubles n) behind ∙ doubles_take n m (drop 8 bytes))
