-- One label of a line.
use Rattle.std.proofs.Common.{◌≡◌, ℕ, zero, suc, ◌+◌, ◌-◌, ◌<◌, ◌≤◌, List, [], ◌∷◌, ◌++◌, Some, None, refl, sym, ap, ◌∙◌, append_assoc, arith}
use Rattle.std.proofs.lemmas.List.{append-nil}
use Rattle.rv_asm.specs.Lines.{label_at, peeled}

-- the labels so far, and those that follow
abbrev pub behind : List (List ℕ) → List (List ℕ) × List ℕ → List (List ℕ) × List ℕ
behind front x = (front ++ x.0, x.1)

joined : (front : List (List ℕ)) (name : List ℕ) (x : List (List ℕ) × List ℕ) → behind (front ++ name ∷ []) x ≡ behind front (name ∷ x.0, x.1)
joined front name x = ap (λ (names : List (List ℕ)). (names, x.1)) (append_assoc front (name ∷ []) x.0)

pub label_next : (n i : ℕ) (body name rest : List ℕ) (front : List (List ℕ)) (total : List (List ℕ) × List ℕ) → i < n → Some (name, rest) ≡ label_at body
    → behind front (peeled (n - i) body) ≡ total → behind (front ++ name ∷ []) (peeled (n - (i + 1)) rest) ≡ total
label_next n i body name rest front total lt is so_far =
    let k : n - i ≡ suc (n - (i + 1)) = omega arith in
    let opened : behind front (peeled (n - i) body) ≡ behind front (name ∷ (peeled (n - (i + 1)) rest).0, (peeled (n - (i + 1)) rest).1) = rw (k, ← is) refl in
    joined front name (peeled (n - (i + 1)) rest) ∙ sym opened ∙ so_far

pub label_none : (n i : ℕ) (body : List ℕ) (front : List (List ℕ)) (total : List (List ℕ) × List ℕ) → i < n → None ≡ label_at body
    → behind front (peeled (n - i) body) ≡ total → ◌≡◌ {A = List (List ℕ) × List ℕ} (front, body) total
label_none n i body front total lt is so_far =
    let k : n - i ≡ suc (n - (i + 1)) = omega arith in
    let opened : behind front (peeled (n - i) body) ≡ (front ++ [], body) = rw (k, ← is) refl in
    let trimmed : ◌≡◌ {A = List (List ℕ) × List ℕ} (front, body) (front ++ [], body) = ap (λ (x : List (List ℕ)). (x, body)) (sym (append-nil front)) in
    trimmed ∙ sym opened ∙ so_far

pub labels_end : (n i : ℕ) (body : List ℕ) (front : List (List ℕ)) (total : List (List ℕ) × List ℕ) → n ≤ i
    → behind front (peeled (n - i) body) ≡ total → ◌≡◌ {A = List (List ℕ) × List ℕ} (front, body) total
labels_end n i body front total le so_far =
    let k : n - i ≡ zero = omega arith in
    let opened : behind front (peeled (n - i) body) ≡ (front ++ [], body) = rw k refl in
    let trimmed : ◌≡◌ {A = List (List ℕ) × List ℕ} (front, body) (front ++ [], body) = ap (λ (x : List (List ℕ)). (x, body)) (sym (append-nil front)) in
    trimmed ∙ sym opened ∙ so_far
